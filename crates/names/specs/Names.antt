-- Names: what a field decodes to, and how a name is written.
--
--   decoded  the name that a field stands for, or its first fault
--   encoded  a name as it is written
--   Lawful   1 to 32 bytes, and not a lone hyphen
use Rattle.std.specs.Prelude.{ℕ, zero, suc, ◌+◌, ◌-◌, ◌<◌, ◌≤◌, cond, ◌&&◌, List, [], ◌∷◌, ◌++◌, length, Ok, Err, Result, ◌==◌, ◌≢◌, nat_le, slice_index}
use Rattle.entities.specs.Entities.{Entity, five, width, value, written_by}
use Rattle.names.specs.declared.fault.NameFault.{NameFault}
use Rattle.names.specs.declared.fault.NameFault.TheVariants.{Empty, BadEntity, TooLong, LoneHyphen}

-- What the bytes from byte `at` of the field on add to the name that is decoded so far. The first `skip` of them
-- belong to an entity that is decoded already.
abbrev pub decoded_from : List Entity → ℕ → ℕ → List ℕ → List ℕ → Result (List ℕ) NameFault
decoded_from t skip at name [] = Ok name
decoded_from t (suc k) at name (b ∷ s) = decoded_from t k (at + 1) name s
decoded_from t zero at name (b ∷ s) =
    cond (width t (b ∷ s) == 0) (Err (BadEntity at))
    (cond (nat_le 32 (length name)) (Err (TooLong at))
    (decoded_from t (width t (b ∷ s) - 1) (at + 1) (name ++ value t (b ∷ s) ∷ []) s))

-- a name has a byte, and is not a lone hyphen
abbrev pub admitted : Result (List ℕ) NameFault → Result (List ℕ) NameFault
admitted (Ok n) = cond (length n == 0) (Err Empty) (cond (length n == 1 && slice_index n 0 == 45) (Err LoneHyphen) (Ok n))
admitted (Err e) = Err e

-- the same for any table of entities
abbrev pub decoded_by : List Entity → List ℕ → Result (List ℕ) NameFault
decoded_by t field = admitted (decoded_from t 0 1 [] field)

abbrev pub decoded : List ℕ → Result (List ℕ) NameFault
decoded field = decoded_by five field

-- a name as it is written under a table of entities
abbrev pub encoded_by : List Entity → List ℕ → List ℕ
encoded_by t [] = []
encoded_by t (b ∷ n) = written_by t b ++ encoded_by t n

abbrev pub encoded : List ℕ → List ℕ
encoded n = encoded_by five n

abbrev pub Lawful : List ℕ → Type 0
Lawful n = (0 < length n) × (length n ≤ 32) × (n ≢ 45 ∷ [])
