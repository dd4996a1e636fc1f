-- Blocking terms and bounds together.
use Rattle.std.specs.Prelude.{ℕ, List, map, Ok, Err, Result}
use Rattle.disciplines.specs.Rules.{Relation}
use Rattle.tables.specs.Rows.{Row, Listing}
use Rattle.analysis.specs.declared.lateness.WeighFault.{WeighFault}
use Rattle.analysis.specs.declared.part.Bounds.{Bounds}
use Rattle.analysis.specs.Seats.{Seats}
use Rattle.analysis.specs.Weighing.{Planned, bounds_to, terms_to}
use Rattle.weights.specs.declared.weight.Weight.{Weight}

-- bounds beside these blocking terms
abbrev pub with_terms : List ℕ → Result (List Bounds) WeighFault → Result (List ℕ × List Bounds) WeighFault
with_terms terms (Ok bounds) = Ok (terms, bounds)
with_terms terms (Err fault) = Err fault

-- the blocking terms and the bounds of the first n tasks, or the first of them that is late
abbrev pub weighed_to : Relation → Seats → List Row → ℕ → Result (List ℕ × List Bounds) WeighFault
weighed_to may s rows n = with_terms (terms_to may s rows n) (bounds_to may s rows n)

-- the blocking terms of these weights
abbrev pub terms_of : List Weight → List ℕ
terms_of weights = map (λ w. w.blocking) weights

-- the bounds of these weights
abbrev pub bounds_of : List Weight → List Bounds
bounds_of weights = map (λ w. w.bounds) weights

-- the plan with these weights
abbrev pub planned_with : ℕ → ℕ → Listing → Seats → List Weight → Planned
planned_with m q t s weights =
    record { processors = m; syncs = q; seats = s; table = t; blocking = terms_of weights; bounds = bounds_of weights }
