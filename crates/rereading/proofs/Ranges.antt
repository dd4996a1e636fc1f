-- What a line that was read says: its names are legible, and its figures are in range.
use Rattle.std.proofs.Common.{◌≡◌, ℕ, zero, suc, ◌≤◌, true, cond, ◌&&◌, eqb, leb, List, [], ◌∷◌, length, get_or, Some, None, Ok, Err, codes, Option, Result, refl, ap, ◌∙◌, subst, arith}
use Rattle.std.specs.Str.{bytes_eq}
use Rattle.std.proofs.lemmas.Bool.{and_parts, cond_both, leb-true}
use Rattle.names.specs.declared.fault.NameFault.{NameFault}
use Rattle.names.specs.Names.{decoded}
use Rattle.fields.specs.Fields.{Shape, figure, name, hyphen, all_visible, filled, name_or_hyphen}
use Rattle.fields.specs.Figures.{at_most, figure_of}
use Rattle.fields.specs.Forms.{all_filled, in_form, resource_fields, task_fields, resource_form, task_form}
use Rattle.texts.specs.Lines.{pieces}
use Rattle.entries.specs.declared.fault.LineFault.{LineFault}
use Rattle.entries.specs.declared.fault.LineFault.TheVariants.{Form, Figure, Name}
use Rattle.entries.specs.Entries.{Entry, ◌then◌, formed, named, name_at, figured, figure_at, guard_at, entry_of, resource_line, task_line}
use Rattle.tables.specs.Rows.{Row}
use Rattle.rereading.proofs.Outcomes.{never, went, inner}
use Rattle.rereading.proofs.Visible.{Legible, decoded-legible}

-- what a task line says is in range
pub record InRange (n : List ℕ) (b c a p : ℕ) : Type 0 where
  pub legible : Legible n
  pub before : b ≤ 10000000
  pub critical : c ≤ 10000000
  pub after : a ≤ 10000000
  pub period : p ≤ 10000000
  pub periodic : 1 ≤ p

-- and so is the row of a task
abbrev pub Ranged : Row → Type 0
Ranged r = InRange r.name r.before r.critical r.after r.period

-- a piece of a line of fields has visible bytes alone
piece-visible : (ps : List (List ℕ)) (i : ℕ) → all_filled ps ≡ true → all_visible (get_or ps i []) ≡ true
piece-visible [] i h = refl
piece-visible (p ∷ ps) zero h = (and_parts (leb 1 (length p)) (all_visible p) (and_parts (filled p) (all_filled ps) h).0).1
piece-visible (p ∷ ps) (suc i) h = piece-visible ps i (and_parts (filled p) (all_filled ps) h).1

-- the fields of a line in form
formed-fields : (n : ℕ) (keyword : List ℕ) (ps : List (List ℕ)) (shapes fields : List Shape) → formed (cond (in_form n keyword ps) (Some shapes) None) ≡ Ok fields → (all_filled ps ≡ true) × (shapes ≡ fields)
formed-fields n keyword ps shapes fields =
    cond_both (in_form n keyword ps) (Some shapes) None (λ o. formed o ≡ Ok fields → (all_filled ps ≡ true) × (shapes ≡ fields))
    (λ t e.
    let p = and_parts (eqb (length ps) n) (all_filled ps && bytes_eq keyword (get_or ps 0 [])) t in
    ((and_parts (all_filled ps) (bytes_eq keyword (get_or ps 0 [])) p.1).0, inner shapes fields e))
    (λ _ e. never Form fields e)

-- a field that was read as a name has a legible one
name-read : (k : ℕ) (s n : List ℕ) → all_visible s ≡ true → name_at k (name s) ≡ Ok n → Legible n
name-read k s n v = on (decoded s) refl
  where
    on : (r : Result (List ℕ) NameFault) → decoded s ≡ r → named k r ≡ Ok n → Legible n
    on (Ok m) is e = decoded-legible s n v (is ∙ ap Ok (inner m n e))
    on (Err x) is e = never (Name k x) n e

-- a field that was read as a figure has one in its range
figure-read : (k least n : ℕ) (o : Option ℕ) → figured k (at_most least 10000000 o) ≡ Ok n → (least ≤ n) × (n ≤ 10000000)
figure-read k least n None = never (Figure k) n
figure-read k least n (Some m) =
    cond_both (leb least m && leb m 10000000) (Some m) None (λ o. figured k o ≡ Ok n → (least ≤ n) × (n ≤ 10000000))
    (λ t e.
    let p = and_parts (leb least m) (leb m 10000000) t in
    let low = leb-true least m p.0 in
    let high = leb-true m 10000000 p.1 in
    let same = inner m n e in
    (omega arith, omega arith))
    (λ _ e. never (Figure k) n e)

-- so has one that was read before others
figure-went : {Y : Type 0} (k least : ℕ) (s : List ℕ) (next : ℕ → Result Y LineFault) (y : Y) → (figure_at k least (figure s) then next) ≡ Ok y → (n : ℕ) × (least ≤ n) × (n ≤ 10000000) × (next n ≡ Ok y)
figure-went k least s next y h =
    let w = went (figure_at k least (figure s)) next y h in
    let r = figure-read k least w.0 (figure_of s) w.1 in
    (w.0, r.0, r.1, w.2)

-- what the two kinds of lines say
pub resource-legible : (line n : List ℕ) → resource_line line ≡ Ok n → Legible n
resource-legible line n e =
    let ps = pieces line in
    let w = went (formed (resource_form line)) (λ fields. name_at 2 (get_or fields 1 hyphen)) n e in
    let f = formed-fields 2 (codes "resource") ps (resource_fields ps) w.0 w.1 in
    name-read 2 (get_or ps 1 []) n (piece-visible ps 1 f.0) (ap (λ (fs : List Shape). name_at 2 (get_or fs 1 hyphen)) f.1 ∙ w.2)

pub task-in-range : (line : List ℕ) (e : Entry) → task_line line ≡ Ok e → InRange e.name e.before e.critical e.after e.period
task-in-range line e h =
    let ps = pieces line in
    let w = went (formed (task_form line)) entry_of e h in
    let f = formed-fields 7 (codes "task") ps (task_fields ps) w.0 w.1 in
    let n = went (name_at 2 (name (get_or ps 1 []))) _ e (ap entry_of f.1 ∙ w.2) in
    let b = figure-went 3 0 (get_or ps 2 []) _ e n.2 in
    let c = figure-went 4 0 (get_or ps 3 []) _ e b.3 in
    let a = figure-went 5 0 (get_or ps 4 []) _ e c.3 in
    let p = figure-went 6 1 (get_or ps 5 []) _ e a.3 in
    let g = went (guard_at 7 (name_or_hyphen (get_or ps 6 []))) _ e p.3 in
    subst (λ (x : Entry). InRange x.name x.before x.critical x.after x.period) (inner _ e g.2)
    (record {
      legible = name-read 2 (get_or ps 1 []) n.0 (piece-visible ps 1 f.0) n.1;
      before = b.2;
      critical = c.2;
      after = a.2;
      period = p.2;
      periodic = p.1;
    })
