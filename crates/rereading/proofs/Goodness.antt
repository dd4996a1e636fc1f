-- What holds of every table that was read: it is sound, its names are legible, its rows fit, and it has at most 64 tasks.
use Rattle.std.proofs.Common.{◌≡◌, ℕ, ◌+◌, ◌≤◌, true, false, not, ◌||◌, eqb, ltb, leb, List, [], ◌∷◌, ◌++◌, length, Ok, Err, Result, sym, refl, ap, ◌∙◌, subst, arith}
use Rattle.std.specs.List.{AllByRecursion as All}
use Rattle.std.proofs.ByRecursion.{All-push}
use Rattle.std.proofs.lemmas.Bool.{cond_both, leb-false}
use Rattle.texts.specs.declared.place.Text.{Text}
use Rattle.texts.specs.declared.place.Text.TheVariants.{Resources, Tasks}
use Rattle.entries.specs.declared.fault.LineFault.{LineFault}
use Rattle.entries.specs.declared.fault.LineFault.TheVariants.{Full, Twice, Unmatched, Overfull}
use Rattle.entries.specs.Entries.{resource_line, task_line}
use Rattle.tables.specs.declared.fault.Refusal.{Refusal}
use Rattle.tables.specs.declared.fault.Refusal.TheVariants.{Line}
use Rattle.tables.specs.Rows.{Row, Listing, row_names, has, placed, sound}
use Rattle.tables.specs.Reading.{with_resource, matched, total, fitted, place_for, with_task, with_entry, read_line, read_lines, empty_table}
use Rattle.tables.proofs.Places.{resource-inside}
use Rattle.tables.proofs.Soundness.{sound-resource, sound-task}
use Rattle.rereading.proofs.Outcomes.{never, passed, went, inner}
use Rattle.rereading.proofs.Visible.{Legible}
use Rattle.rereading.proofs.Ranges.{Ranged, resource-legible, task-in-range}

-- a task's figures are in range, its lengths fit into its period, and it has a resource exactly if it has a critical section
pub record Fits (r : Row) : Type 0 where
  pub range : Ranged r
  pub match : not (matched r.resource r.critical) ≡ false
  pub room : (eqb (r.before + r.critical + r.after) 0 || ltb r.period (r.before + r.critical + r.after)) ≡ false

-- a table that was read
pub record Good (t : Listing) : Type 0 where
  pub whole : sound t.resources t.tasks ≡ true
  pub names : All Legible t.resources
  pub rows : All Fits t.tasks
  pub few : length t.tasks ≤ 64

-- one row more in its place
all_placed : (P : Row → Type 0) (r : Row) (xs : List Row) → P r → All P xs → All P (placed r xs)
all_placed P r [] h a = (h, tt)
all_placed P r (x ∷ xs) h a =
    cond_both (leb x.period r.period) _ _ (All P) (λ _. (a.0, all_placed P r xs h a.1)) (λ _. (h, a))

length-placed : (r : Row) (xs : List Row) → length (placed r xs) ≡ length xs + 1
length-placed r [] = omega arith
length-placed r (x ∷ xs) =
    cond_both (leb x.period r.period) _ _ (λ ys. length ys ≡ length (x ∷ xs) + 1)
    (λ _. omega (arith, length-placed r xs)) (λ _. omega arith)

-- a resource line leaves the tasks alone
pub resource-keeps : (t u : Listing) (line : List ℕ) → Good t → read_line Resources t line ≡ Ok u → Good u × (u.tasks ≡ t.tasks)
resource-keeps t u line g e =
    let w = went (resource_line line) (with_resource t) u e in
    let n = w.0 in
    let full = passed (leb 32 (length t.resources)) Full _ u w.2 in
    let twice = passed (has n t.resources) Twice _ u full.1 in
    let is = inner _ u twice.1 in
    let good : Good (record { resources = t.resources ++ n ∷ []; tasks = t.tasks }) = record {
      whole = sound-resource t.resources t.tasks g.whole n twice.0;
      names = All-push Legible t.resources n g.names (resource-legible line n w.1);
      rows = g.rows;
      few = g.few;
    } in
    (subst Good is good, ap (λ (v : Listing). v.tasks) (sym is))

-- a task line leaves the resources alone
pub task-keeps : (t u : Listing) (line : List ℕ) → Good t → read_line Tasks t line ≡ Ok u → Good u × (u.resources ≡ t.resources)
task-keeps t u line g h =
    let w = went (task_line line) (with_entry t) u h in
    let e = w.0 in
    let p = went (place_for t e) _ u w.2 in
    let full = passed (leb 64 (length t.tasks)) Full _ p.0 p.1 in
    let twice = passed (has e.name (row_names t.tasks)) Twice _ p.0 full.1 in
    let f = went (fitted e p.0) (λ r. Ok (with_task t r)) u p.2 in
    let match = passed (not (matched p.0 e.critical)) Unmatched _ f.0 f.1 in
    let room = passed (eqb (total e) 0 || ltb e.period (total e)) Overfull _ f.0 match.1 in
    let row : Row = record { name = e.name; before = e.before; critical = e.critical; after = e.after; period = e.period; resource = p.0 } in
    let is : with_task t row ≡ u = ap (with_task t) (inner row f.0 room.1) ∙ inner _ u f.2 in
    let less = leb-false 64 (length t.tasks) full.0 in
    let long = length-placed row t.tasks in
    let fits : Fits row = record { range = task-in-range line e w.1; match = match.0; room = room.0 } in
    let good : Good (with_task t row) = record {
      whole = sound-task t.resources t.tasks g.whole row twice.0 (resource-inside t.resources e.resource p.0 twice.1);
      names = g.names;
      rows = all_placed Fits row t.tasks fits g.rows;
      few = omega (arith, less, long);
    } in
    (subst Good is good, ap (λ (v : Listing). v.resources) (sym is))

-- what each line of a text keeps, the text keeps
pub lines_keep : (text : Text) (P : Listing → Type 0) → ((t u : Listing) (line : List ℕ) → P t → read_line text t line ≡ Ok u → P u) → (k : ℕ) (t u : Listing) (ls : List (List ℕ)) → P t → read_lines text k t ls ≡ Ok u → P u
lines_keep text P each k t u [] p e = subst P (inner t u e) p
lines_keep text P each k t u (l ∷ ls) p e = on (λ v. lines_keep text P each (k + 1) v u ls) (read_line text t l) refl e
  where
    on : ((v : Listing) → P v → read_lines text (k + 1) v ls ≡ Ok u → P u) → (r : Result Listing LineFault) → read_line text t l ≡ r → ◌≡◌ {A = Result Listing Refusal} (elim r [ Ok v ↦ read_lines text (k + 1) v ls | Err x ↦ Err (Line text k x) ]) (Ok u) → P u
    on rest (Ok v) is e = rest v (each t v l p is) e
    on rest (Err x) is e = never (Line text k x) u e

-- the empty table, from which reading starts
pub empty-good : Good empty_table
empty-good = record { whole = refl; names = tt; rows = tt; few = omega arith }
