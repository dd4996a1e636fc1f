-- The printed tasks of a table are read one by one, each into the place that it had.
use Rattle.std.proofs.Common.{◌≡◌, ℕ, ◌+◌, ◌≤◌, true, not, ◌||◌, eqb, ltb, leb, List, [], ◌∷◌, ◌++◌, length, Some, None, Ok, Err, codes, Option, Result, sym, refl, ap, ◌∙◌, subst, arith}
use Rattle.std.specs.List.{AllByRecursion as All}
use Rattle.std.proofs.ByRecursion.{All-get_or}
use Rattle.std.proofs.lemmas.List.{append_assoc, append-nil, length-append}
use Rattle.std.proofs.lemmas.Option.{slice_get-get_or}
use Rattle.std.proofs.lemmas.Bool.{cond-false, le-ltb, lt-leb, ltb-true}
use Rattle.texts.specs.declared.place.Text.TheVariants.{Resources, Tasks}
use Rattle.texts.specs.Lines.{lines}
use Rattle.entries.specs.declared.fault.LineFault.{LineFault}
use Rattle.entries.specs.declared.fault.LineFault.TheVariants.{Full, Twice, Unmatched, Overfull}
use Rattle.entries.specs.Entries.{task_line}
use Rattle.tables.specs.declared.fault.Refusal.{Refusal}
use Rattle.tables.specs.declared.fault.Refusal.TheVariants.{Long, Line}
use Rattle.tables.specs.Rows.{Row, Listing, row_names, has, distinct, inside}
use Rattle.tables.specs.Reading.{or_unknown, resource_for, matched, fitted, place_for, with_task, with_entry, read_line, read_lines, empty_table, within_limit}
use Rattle.writing.specs.Lines.{spaced, in_turn}
use Rattle.reports.specs.Reports.{guard_of, task_text, tasks_text}
use Rattle.rereading.specs.Rereading.{ReadsBack}
use Rattle.rereading.proofs.Outcomes.{went, goes}
use Rattle.rereading.proofs.Visible.{Legible}
use Rattle.rereading.proofs.Cutting.{lines-spaced}
use Rattle.rereading.proofs.Goodness.{Fits, Good, resource-keeps, task-keeps, lines_keep, empty-good}
use Rattle.rereading.proofs.TaskLines.{LegibleIn, printed, entry_for, printed-filled, line-back}
use Rattle.tables.proofs.Soundness.{Sound, sound-parts}
use Rattle.rereading.proofs.Order.{place-back, all-amid, new-amid, placed-amid, known-amid}
use Rattle.rereading.proofs.Lengths.{line-short, turns-short}

-- the name of a task's resource leads back to the resource, and can stand in a text
module _ (rs : List (List ℕ)) where
  guard-place : (g : Option ℕ) → distinct rs ≡ true → inside (length rs) g ≡ true → resource_for rs (guard_of rs g) ≡ Ok g
  guard-place None d i = refl
  guard-place (Some k) d i =
      let l = ltb-true k (length rs) i in
      ap (resource_for rs) (slice_get-get_or rs k [] l) ∙ ap or_unknown (place-back k rs d l)

  guard-legible : (g : Option ℕ) → All Legible rs → inside (length rs) g ≡ true → LegibleIn (guard_of rs g)
  guard-legible None a i = tt
  guard-legible (Some k) a i =
      let l = ltb-true k (length rs) i in
      subst LegibleIn (sym (slice_get-get_or rs k [] l)) (All-get_or Legible rs k [] l a)

-- the name of a task's resource
abbrev guard : List (List ℕ) → Row → Option (List ℕ)
guard rs r = guard_of rs r.resource

abbrev table : List (List ℕ) → List Row → Listing
table rs ts = record { resources = rs; tasks = ts }

-- a row of a good table, after those before it
module _ (rs : List (List ℕ)) (done : List Row) (r : Row) (left : List Row) (g : Good (table rs (done ++ r ∷ left))) where
  ranked : Sound rs (done ++ r ∷ left)
  ranked = sound-parts rs (done ++ r ∷ left) g.whole

  amid-fits : Fits r
  amid-fits = all-amid Fits done r left g.rows

  amid-inside : inside (length rs) r.resource ≡ true
  amid-inside = known-amid r left (length rs) done ranked.known

  amid-legible : LegibleIn (guard rs r)
  amid-legible = guard-legible rs r.resource g.names amid-inside

  -- among those before it there is room for it, and it is new
  place-again : place_for (table rs done) (entry_for r (guard rs r)) ≡ Ok r.resource
  place-again =
      let few = g.few in
      let long = length-append done (r ∷ left) in
      cond-false (leb 64 (length done)) (Err Full) _ (lt-leb 64 (length done) (omega arith))
      ∙ cond-false (has r.name (row_names done)) (Err Twice) _ (new-amid r left done ranked.unlike)
      ∙ guard-place rs r.resource ranked.apart amid-inside

  -- its own figures fit as they did
  fitted-again : fitted (entry_for r (guard rs r)) r.resource ≡ Ok r
  fitted-again =
      cond-false (not (matched r.resource r.critical)) (Err Unmatched) _ amid-fits.match
      ∙ cond-false (eqb (r.before + r.critical + r.after) 0 || ltb r.period (r.before + r.critical + r.after)) (Err Overfull) _ amid-fits.room

  -- its line adds it after those before it
  line-again : read_line Tasks (table rs done) (spaced (codes "task" ∷ printed r (guard rs r))) ≡ Ok (table rs (done ++ r ∷ []))
  line-again =
      let t = table rs done in
      let e = entry_for r (guard rs r) in
      goes (task_line (spaced (codes "task" ∷ printed r (guard rs r)))) (with_entry t) e (line-back r (guard rs r) amid-fits.range amid-legible)
      ∙ goes (place_for t e) _ r.resource place-again
      ∙ goes (fitted e r.resource) (λ row. Ok (with_task t row)) r fitted-again
      ∙ ap (λ ts. Ok (table rs ts)) (placed-amid r left done ranked.rises)

  -- so one line of the printed text is done
  first-again : (k : ℕ) (rest : List ℕ) → read_lines Tasks k (table rs done) (lines (task_text rs r ++ rest)) ≡ read_lines Tasks (k + 1) (table rs (done ++ r ∷ [])) (lines rest)
  first-again k rest =
      ap (read_lines Tasks k (table rs done)) (lines-spaced (codes "task") (printed r (guard rs r)) rest (printed-filled r (guard rs r) amid-fits.range amid-legible))
      ∙ ap (λ (u : Result Listing LineFault). elim u as (λ _. Result Listing Refusal) [ Ok v ↦ read_lines Tasks (k + 1) v (lines rest) | Err x ↦ Err (Line Tasks k x) ]) line-again

-- the rows that are left are read after those that are done
rows-again : (rs : List (List ℕ)) (done left : List Row) (k j : ℕ) → Good (table rs (done ++ left)) → read_lines Tasks k (table rs done) (lines (in_turn (λ _ row. task_text rs row) j left)) ≡ Ok (table rs (done ++ left))
rows-again rs done [] k j g = ap (λ ts. Ok (table rs ts)) (sym (append-nil done))
rows-again rs done (r ∷ left) k j g =
    let same = append_assoc done (r ∷ []) left in
    let good = subst (λ ts. Good (table rs ts)) (sym same) g in
    first-again rs done r left g k (in_turn (λ _ row. task_text rs row) (j + 1) left)
    ∙ rows-again rs (done ++ r ∷ []) left (k + 1) (j + 1) good
    ∙ ap (λ ts. Ok (table rs ts)) same

-- each line of a good table is short
lines-short : (rs : List (List ℕ)) (done left : List Row) → Good (table rs (done ++ left)) → All (λ row. (j : ℕ) → length (task_text rs row) ≤ 427) left
lines-short rs done [] g = tt
lines-short rs done (r ∷ left) g = (
  λ j. line-short r (guard rs r) (amid-fits rs done r left g).range (amid-legible rs done r left g),
  lines-short rs (done ++ r ∷ []) left (subst (λ ts. Good (table rs ts)) (sym (append_assoc done (r ∷ []) left)) g),
)

-- 64 lines of 427 bytes are within the limit
text-within : (t : Listing) → Good t → within_limit Tasks (tasks_text t) ≡ Ok tt
text-within t g =
    let few = g.few in
    let short = turns-short (λ _ row. task_text t.resources row) 0 t.tasks (lines-short t.resources [] t.tasks g) in
    cond-false (ltb 32768 (length (tasks_text t))) (Err (Long Tasks)) _ (le-ltb 32768 (length (tasks_text t)) (omega arith))

-- the resource text leaves a good table with no tasks
resources-read : (resources : List ℕ) (u : Listing) → read_lines Resources 1 empty_table (lines resources) ≡ Ok u → Good u × (u.tasks ≡ [])
resources-read resources u e =
    lines_keep Resources (λ v. Good v × (v.tasks ≡ []))
    (λ v w line p h. let k = resource-keeps v w line p.0 h in (k.0, k.1 ∙ p.1))
    1 empty_table u (lines resources) (empty-good, refl) e

-- the task text leaves a good table with the same resources
tasks-read : (tasks : List ℕ) (u t : Listing) → Good u → read_lines Tasks 1 u (lines tasks) ≡ Ok t → Good t × (t.resources ≡ u.resources)
tasks-read tasks u t g e =
    lines_keep Tasks (λ v. Good v × (v.resources ≡ u.resources))
    (λ v w line p h. let k = task-keeps v w line p.0 h in (k.0, k.1 ∙ p.1))
    1 u t (lines tasks) (g, refl) e

-- the resource text leads to the same table as before, and the printed tasks from there to the table that was read
pub reads-back : ReadsBack
reads-back resources tasks t e =
    let a = went (within_limit Resources resources) _ t e in
    let b = went (within_limit Tasks tasks) _ t a.2 in
    let c = went (read_lines Resources 1 empty_table (lines resources)) (λ v. read_lines Tasks 1 v (lines tasks)) t b.2 in
    let u = c.0 in
    let listed = resources-read resources u c.1 in
    let read = tasks-read tasks u t listed.0 c.2 in
    let start : u ≡ table t.resources [] = λ i. record { resources = sym read.1 i; tasks = listed.1 i } in
    goes (within_limit Resources resources) _ a.0 a.1
    ∙ goes (within_limit Tasks (tasks_text t)) _ tt (text-within t read.0)
    ∙ goes (read_lines Resources 1 empty_table (lines resources)) (λ v. read_lines Tasks 1 v (lines (tasks_text t))) u c.1
    ∙ ap (λ v. read_lines Tasks 1 v (lines (tasks_text t))) start
    ∙ rows-again t.resources [] t.tasks 1 0 read.0
