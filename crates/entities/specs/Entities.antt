-- One byte of a name as a text writes it.
--
--   Entity   the letters between `&` and `;`, and the byte that they stand for
--   five     the five entities of a text
--   width    how many bytes at the front of a field stand for one byte: 0 where its `&` begins no entity, or there is none
--   value    the byte that they stand for
--   written  a byte as it is written: by the first entity that stands for it, else as itself
use Rattle.std.specs.Prelude.{ℕ, suc, ◌+◌, Bool, true, cond, ◌&&◌, List, [], ◌∷◌, ◌++◌, length, codes, ◌==◌, slice_index}

abbrev pub Entity : Type 0
Entity = List ℕ × ℕ

abbrev pub five : List Entity
five = (codes "amp", 38) ∷ (codes "lt", 60) ∷ (codes "gt", 62) ∷ (codes "apos", 39) ∷ (codes "quot", 34) ∷ []

-- an entity's bytes after its `&`
abbrev pub tail : Entity → List ℕ
tail e = e.0 ++ 59 ∷ []

-- the bytes p, none of which is 0, stand in s from place i on
abbrev pub stands_at : ℕ → List ℕ → List ℕ → Bool
stands_at i [] s = true
stands_at i (p ∷ ps) s = slice_index s i == p && stands_at (i + 1) ps s

-- the width and the value of the first entity of the table that stands at the front of s
abbrev pub entity_width : List Entity → List ℕ → ℕ
entity_width [] s = 0
entity_width (e ∷ t) s = cond (stands_at 1 (tail e) s) (suc (length (tail e))) (entity_width t s)

abbrev pub entity_value : List Entity → List ℕ → ℕ
entity_value [] s = 0
entity_value (e ∷ t) s = cond (stands_at 1 (tail e) s) e.1 (entity_value t s)

-- the width of a byte that stands for itself, if there is one
abbrev pub single : List ℕ → ℕ
single [] = 0
single (b ∷ s) = 1

abbrev pub width : List Entity → List ℕ → ℕ
width t s = cond (slice_index s 0 == 38) (entity_width t s) (single s)

abbrev pub value : List Entity → List ℕ → ℕ
value t s = cond (slice_index s 0 == 38) (entity_value t s) (slice_index s 0)

abbrev pub written_by : List Entity → ℕ → List ℕ
written_by [] b = b ∷ []
written_by (e ∷ t) b = cond (e.1 == b) (38 ∷ tail e) (written_by t b)

abbrev pub written : ℕ → List ℕ
written b = written_by five b
