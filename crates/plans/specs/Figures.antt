-- The bounds of a plan as figures in a row.
--
--   figures   four numbers for each task: its three bounds and their sum
--   has_room  whether a row has room for them
--   filled    the row with them at its front; as it was, where it has no room
use Rattle.std.specs.Prelude.{ℕ, ◌*◌, Bool, cond, List, [], ◌∷◌, ◌++◌, length, drop, Ok, Err, Result, nat_le}
use Rattle.analysis.specs.declared.part.Bounds.{Bounds}
use Rattle.analysis.specs.Parts.{total}
use Rattle.plans.specs.declared.row.ShortRow.{ShortRow}

abbrev pub figures : List Bounds → List ℕ
figures [] = []
figures (x ∷ xs) = x.before ∷ x.critical ∷ x.after ∷ total x ∷ figures xs

abbrev pub has_room : List Bounds → List ℕ → Bool
has_room xs row = nat_le (4 * length xs) (length row)

abbrev pub filled : List Bounds → List ℕ → List ℕ
filled xs row = cond (has_room xs row) (figures xs ++ drop (4 * length xs) row) row

-- a row that is too short is refused
abbrev pub room_for : List Bounds → List ℕ → Result Unit ShortRow
room_for xs row = cond (has_room xs row) (Ok tt) (Err (record {}))
