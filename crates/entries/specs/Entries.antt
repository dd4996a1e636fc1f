-- What one line says, or its first fault: the form, then each field from the left.
--
--   ◌then◌         the next step's answer, or this one's fault
--   name_at        the name in a field, or the fault with the field's number
--   figure_at      the figure in a field, from `low` to 10,000,000
--   guard_at       the name of a resource, or none for `-`
--   Entry          what a task line says: names decoded, figures read
--   resource_line  what a resource line says
--   task_line      what a task line says
use Rattle.std.specs.Prelude.{ℕ, Bool, true, false, cond, List, Some, None, Ok, Err, Option, Result, slice_index_or}
use Rattle.names.specs.declared.fault.NameFault.{NameFault}
use Rattle.names.specs.Names.{decoded}
use Rattle.fields.specs.Fields.{Shape, word, figure, name, hyphen, piece_of}
use Rattle.fields.specs.Figures.{at_most, figure_of}
use Rattle.fields.specs.Forms.{resource_form, task_form}
use Rattle.entries.specs.declared.fault.LineFault.{LineFault}
use Rattle.entries.specs.declared.fault.LineFault.TheVariants.{Form, Figure, Name}

infixr 20 ◌then◌
abbrev pub ◌then◌ : {X Y E : Type 0} → Result X E → (X → Result Y E) → Result Y E
◌then◌ (Ok x) next = next x
◌then◌ (Err e) next = Err e

-- a line that is not in form is at fault
abbrev pub formed : Option (List Shape) → Result (List Shape) LineFault
formed None = Err Form
formed (Some fields) = Ok fields

-- a bad name is told with its field
abbrev pub named : ℕ → Result (List ℕ) NameFault → Result (List ℕ) LineFault
named k (Ok n) = Ok n
named k (Err e) = Err (Name k e)

abbrev pub name_at : ℕ → Shape → Result (List ℕ) LineFault
name_at k field = named k (decoded (piece_of field))

-- a bad figure is told by its field
abbrev pub figured : ℕ → Option ℕ → Result ℕ LineFault
figured k (Some n) = Ok n
figured k None = Err (Figure k)

abbrev pub figure_at : ℕ → ℕ → Shape → Result ℕ LineFault
figure_at k low field = figured k (at_most low 10000000 (figure_of (piece_of field)))

-- whether a field is `-` in the place of a resource
abbrev pub is_hyphen : Shape → Bool
is_hyphen hyphen = true
is_hyphen (word s) = false
is_hyphen (figure s) = false
is_hyphen (name s) = false

abbrev pub guard_at : ℕ → Shape → Result (Option (List ℕ)) LineFault
guard_at k field = cond (is_hyphen field) (Ok None) (name_at k field then (λ n. Ok (Some n)))

pub record Entry : Type 0 where
  pub name : List ℕ
  pub before : ℕ
  pub critical : ℕ
  pub after : ℕ
  pub period : ℕ
  pub resource : Option (List ℕ)

-- the fields of a task line, of which the first is the word `task`
abbrev pub entry_of : List Shape → Result Entry LineFault
entry_of fields =
    name_at 2 (slice_index_or fields 1 hyphen) then (λ n.
    figure_at 3 0 (slice_index_or fields 2 hyphen) then (λ b.
    figure_at 4 0 (slice_index_or fields 3 hyphen) then (λ c.
    figure_at 5 0 (slice_index_or fields 4 hyphen) then (λ a.
    figure_at 6 1 (slice_index_or fields 5 hyphen) then (λ p.
    guard_at 7 (slice_index_or fields 6 hyphen) then (λ g.
    Ok (record { name = n; before = b; critical = c; after = a; period = p; resource = g })))))))

abbrev pub resource_line : List ℕ → Result (List ℕ) LineFault
resource_line line = formed (resource_form line) then (λ fields. name_at 2 (slice_index_or fields 1 hyphen))

abbrev pub task_line : List ℕ → Result Entry LineFault
task_line line = formed (task_form line) then entry_of
