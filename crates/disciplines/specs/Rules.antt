-- The rules that every discipline's answer keeps.
--
--   Relation  which section may hold against which
--   Answers   a place in a row of open sections that may be served next; none exactly if the row is empty
use Rattle.std.specs.Prelude.{◌≡◌, ℕ, ◌<◌, ◌≤◌, Bool, true, false, ◌⊎◌, List, length, Some, None, Option, slice_index_or}
use Rattle.std.proofs.Common.{lit<}
use Rattle.disciplines.specs.declared.section.Section.{Section}
use Rattle.disciplines.specs.declared.section.OpenSection.{OpenSection}

-- whether the first section may hold against the second
abbrev pub Relation : Type 0
Relation = Section → Section → Bool

-- what stands past the end of a row
abbrev pub blank : OpenSection
blank = record { section = record { rank = 0; resource = 0; ceiling = 0; small = (lit< tt, lit< tt, lit< tt) }; started = false }

-- what stands at a place of the row
abbrev pub place : List OpenSection → ℕ → OpenSection
place row k = slice_index_or row k blank

-- P holds of each open section of the row
abbrev pub Each : (OpenSection → Type 0) → List OpenSection → Type 0
Each P row = (k : ℕ) → k < length row → P (place row k)

-- the open section `n` may be served next
pub record Named (may : Relation) (row : List OpenSection) (n : OpenSection) : Type 0 where
  -- it is started and may hold against every better-ranked one, or none ranks better
  pub ahead : ((n.started ≡ true) × Each (λ y. y.section.rank < n.section.rank → may n.section y.section ≡ true) row)
      ⊎ Each (λ y. n.section.rank ≤ y.section.rank) row
  -- if it is not started, no started one may hold against it
  pub fresh : n.started ≡ false → Each (λ y. y.started ≡ true → may y.section n.section ≡ false) row

-- the place of one that may be served next; none exactly if the row is empty
abbrev pub Answers : Relation → List OpenSection → Option ℕ → Type 0
Answers may row None = length row ≡ 0
Answers may row (Some i) = (i < length row) × Named may row (place row i)
