-- The forms of the two kinds of lines.
--
--   held             what references to bytes point to
--   all_filled       whether each piece of a line is a field
--   in_form          whether pieces are so many fields, of which the first is the keyword
--   resource_fields  what the pieces of a resource line are
--   task_fields      what the pieces of a task line are
--   form             the fields of a line that has so many, of which the first is the keyword; none where it is not in form
--   resource_form    the fields of a line in the form `resource NAME`; none where it is not in form
--   task_form        the fields of a line in the form `task NAME BEFORE CRITICAL AFTER PERIOD RESOURCE`; none where it is not in form
--   resource_shapes  the shapes of a resource line's fields, in their order
--   task_shapes      the shapes of a task line's fields, in their order
use Rattle.std.specs.Prelude.{ℕ, Bool, cond, ◌&&◌, List, [], ◌∷◌, map, length, Some, None, codes, Option, ◌==◌, slice_index_or}
use Rattle.std.specs.Borrow.{Bor}
use Rattle.std.specs.List.{list_all}
use Rattle.std.specs.Str.{bytes_eq}
use Rattle.fields.specs.declared.forms.ResourceLine.{ResourceLine}
use Rattle.fields.specs.declared.forms.TaskLine.{TaskLine}
use Rattle.fields.specs.Fields.{Shape, word, figure, name, filled, name_or_hyphen, shape}
use Rattle.texts.specs.Lines.{pieces}

abbrev pub held : List (Bor (List ℕ)) → List (List ℕ)
held rs = map (λ r. r.now) rs

abbrev pub all_filled : List (List ℕ) → Bool
all_filled ps = list_all filled ps

abbrev pub in_form : ℕ → List ℕ → List (List ℕ) → Bool
in_form n keyword ps = length ps == n && (all_filled ps && bytes_eq keyword (slice_index_or ps 0 []))

abbrev pub resource_fields : List (List ℕ) → List Shape
resource_fields ps = word (slice_index_or ps 0 []) ∷ name (slice_index_or ps 1 []) ∷ []

abbrev pub task_fields : List (List ℕ) → List Shape
task_fields ps =
    word (slice_index_or ps 0 []) ∷ name (slice_index_or ps 1 []) ∷ figure (slice_index_or ps 2 []) ∷ figure (slice_index_or ps 3 []) ∷ figure (slice_index_or ps 4 [])
    ∷ figure (slice_index_or ps 5 []) ∷ name_or_hyphen (slice_index_or ps 6 []) ∷ []

abbrev pub form : ℕ → List ℕ → (List (List ℕ) → List Shape) → List ℕ → Option (List Shape)
form n keyword fields l = cond (in_form n keyword (pieces l)) (Some (fields (pieces l))) None

abbrev pub resource_form : List ℕ → Option (List Shape)
resource_form l = form 2 (codes "resource") resource_fields l

abbrev pub task_form : List ℕ → Option (List Shape)
task_form l = form 7 (codes "task") task_fields l

abbrev pub resource_shapes : ResourceLine → List Shape
resource_shapes l = shape l.word ∷ shape l.name ∷ []

abbrev pub task_shapes : TaskLine → List Shape
task_shapes l =
    shape l.word ∷ shape l.name ∷ shape l.before ∷ shape l.critical ∷ shape l.after ∷ shape l.period
    ∷ shape l.resource ∷ []
