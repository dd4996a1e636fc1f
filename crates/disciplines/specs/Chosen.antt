-- What the supplied disciplines answer: the first best-ranked open section, unless a started one may hold against it;
-- then the first best-ranked such holder.
use Rattle.std.specs.Prelude.{ℕ, zero, suc, ◌<◌, Bool, true, cond, ◌&&◌, List, length, Some, None, Option, nat_lt}
use Rattle.disciplines.specs.declared.section.Section.{Section}
use Rattle.disciplines.specs.declared.section.OpenSection.{OpenSection}
use Rattle.disciplines.specs.Rules.{Relation, place}

-- a place that was found stands in the row
abbrev pub Within : List OpenSection → Option ℕ → Type 0
Within row None = Unit {0}
Within row (Some b) = b < length row

-- the better-ranked of the place found so far and place `i`; the one found on a tie
abbrev pub improved : List OpenSection → Option ℕ → ℕ → Option ℕ
improved row None i = Some i
improved row (Some b) i = cond (nat_lt (place row i).section.rank (place row b).section.rank) (Some i) (Some b)

-- the first best-ranked one that passes a test, among the first `n` of the row
abbrev pub best_of : (OpenSection → Bool) → List OpenSection → ℕ → Option ℕ
best_of passes row zero = None
best_of passes row (suc n) = cond (passes (place row n)) (improved row (best_of passes row n) n) (best_of passes row n)

-- every open section passes
abbrev pub any_one : OpenSection → Bool
any_one x = true

-- those pass that are started and may hold against a section
abbrev pub holds_against : Relation → Section → OpenSection → Bool
holds_against may against x = x.started && may x.section against

-- the first best-ranked one of the row
abbrev pub best_in : List OpenSection → Option ℕ
best_in row = best_of any_one row (length row)

-- the first best-ranked one of the row that is started and may hold against a section
abbrev pub holder_of : Relation → Section → List OpenSection → Option ℕ
holder_of may against row = best_of (holds_against may against) row (length row)

-- a place if there is one, else another
abbrev pub or_else : Option ℕ → ℕ → Option ℕ
or_else None b = Some b
or_else (Some h) b = Some h

-- the best-ranked one's holder, else the best-ranked one itself
abbrev pub held_or : Relation → List OpenSection → Option ℕ → Option ℕ
held_or may row None = None
held_or may row (Some b) = or_else (holder_of may (place row b).section row) b

-- the place that the supplied disciplines name
abbrev pub chosen : Relation → List OpenSection → Option ℕ
chosen may row = held_or may row (best_in row)
