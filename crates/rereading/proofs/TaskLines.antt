-- The line that is printed of a task is in form, and says of the task what the row says.
use Rattle.std.proofs.Common.{◌≡◌, ℕ, ◌≤◌, true, cond, List, [], ◌∷◌, Some, None, Ok, codes, decimal, Option, Result, refl, ap, ◌∙◌, arith}
use Rattle.std.specs.Str.{bytes_eq}
use Rattle.std.proofs.lemmas.Bool.{and_from, cond-true, cond-false}
use Rattle.names.specs.Names.{encoded}
use Rattle.names.proofs.RoundTrip.{round_trip}
use Rattle.fields.specs.Fields.{figure, name, hyphen, filled, name_or_hyphen}
use Rattle.fields.specs.Forms.{all_filled, in_form, task_fields, task_form}
use Rattle.entries.specs.declared.fault.LineFault.{LineFault}
use Rattle.entries.specs.Entries.{Entry, ◌then◌, formed, named, name_at, figured, figure_at, guard_at, entry_of, task_line}
use Rattle.tables.specs.Rows.{Row}
use Rattle.writing.specs.Lines.{spaced, or_dash}
use Rattle.rereading.proofs.Outcomes.{goes}
use Rattle.rereading.proofs.Visible.{Legible, encoded-filled, encoded-no-hyphen}
use Rattle.rereading.proofs.Figures.{decimal-filled, figure-back}
use Rattle.rereading.proofs.Cutting.{pieces-spaced}
use Rattle.rereading.proofs.Ranges.{Ranged}

-- the name in an option, if there is one, can stand in a text
abbrev pub LegibleIn : Option (List ℕ) → Type 0
LegibleIn None = Unit {0}
LegibleIn (Some n) = Legible n

-- the fields of a task's line after the keyword
abbrev pub printed : Row → Option (List ℕ) → List (List ℕ)
printed r g = encoded r.name ∷ decimal r.before ∷ decimal r.critical ∷ decimal r.after ∷ decimal r.period ∷ or_dash encoded g ∷ []

-- what the line says
abbrev pub entry_for : Row → Option (List ℕ) → Entry
entry_for r g = record { name = r.name; before = r.before; critical = r.critical; after = r.after; period = r.period; resource = g }

-- the field of a resource, and what is read of it
guard-filled : (g : Option (List ℕ)) → LegibleIn g → filled (or_dash encoded g) ≡ true
guard-filled None h = refl
guard-filled (Some n) h = encoded-filled n h

guard-back : (g : Option (List ℕ)) → LegibleIn g → guard_at 7 (name_or_hyphen (or_dash encoded g)) ≡ Ok g
guard-back None h = refl
guard-back (Some n) h =
    ap (guard_at 7) (cond-false (bytes_eq (encoded n) (codes "-")) hyphen (name (encoded n)) (encoded-no-hyphen n h))
    ∙ ap (λ r. named 7 r then (λ m. Ok (Some m))) (round_trip n h.lawful)

-- a number that is printed is read, and the next field's turn comes
figure-goes : {Y : Type 0} (k least n : ℕ) (next : ℕ → Result Y LineFault) → n ≤ 10000000 → least ≤ n → (figure_at k least (figure (decimal n)) then next) ≡ next n
figure-goes k least n next high low = goes (figure_at k least (figure (decimal n))) next n (ap (figured k) (figure-back n high least low))

-- the line of a task whose figures are in range, with the name of its resource
module _ (r : Row) (g : Option (List ℕ)) (f : Ranged r) (h : LegibleIn g) where
  -- it is made of fields
  pub printed-filled : all_filled (codes "task" ∷ printed r g) ≡ true
  printed-filled =
      and_from (filled (codes "task")) _ refl
      (and_from _ _ (encoded-filled r.name f.legible)
      (and_from _ _ (decimal-filled r.before f.before)
      (and_from _ _ (decimal-filled r.critical f.critical)
      (and_from _ _ (decimal-filled r.after f.after)
      (and_from _ _ (decimal-filled r.period f.period)
      (and_from _ _ (guard-filled g h) refl))))))

  entry-back : entry_of (task_fields (codes "task" ∷ printed r g)) ≡ Ok (entry_for r g)
  entry-back =
      goes (name_at 2 (name (encoded r.name))) _ r.name (ap (named 2) (round_trip r.name f.legible.lawful))
      ∙ figure-goes 3 0 r.before _ f.before (omega arith)
      ∙ figure-goes 4 0 r.critical _ f.critical (omega arith)
      ∙ figure-goes 5 0 r.after _ f.after (omega arith)
      ∙ figure-goes 6 1 r.period _ f.period f.periodic
      ∙ goes (guard_at 7 (name_or_hyphen (or_dash encoded g))) _ g (guard-back g h)

  -- it is in form
  form-back : task_form (spaced (codes "task" ∷ printed r g)) ≡ Some (task_fields (codes "task" ∷ printed r g))
  form-back =
      ap (λ ps. cond (in_form 7 (codes "task") ps) (Some (task_fields ps)) None) (pieces-spaced (codes "task") (printed r g) printed-filled)
      ∙ cond-true (in_form 7 (codes "task") (codes "task" ∷ printed r g)) _ _ (and_from true _ refl (and_from _ _ printed-filled refl))

  -- and is read as what the row says
  pub line-back : task_line (spaced (codes "task" ∷ printed r g)) ≡ Ok (entry_for r g)
  line-back = ap (λ o. formed o then entry_of) form-back ∙ entry-back
