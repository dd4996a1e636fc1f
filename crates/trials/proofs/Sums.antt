-- What an accepted seating says of one task's bounds.
--
--   all-weighed  there is a weight for each task
--   sum-small    the bounds of a task add up to at most 10,000,000, for its deadline is no longer
--   sum_told     their sum is what weighing says of the task
use Rattle.std.proofs.Common.{◌≡◌, ℕ, ◌<◌, ◌≤◌, List, length, get_or, Ok, vec_items, sym, ap, refl, ◌∙◌, arith}
use Rattle.std.proofs.lemmas.List.{get_or-map, length-map}
use Rattle.disciplines.specs.Rules.{Relation}
use Rattle.tables.specs.declared.table.Table.{Table}
use Rattle.tables.specs.Listed.{listed}
use Rattle.analysis.specs.Parts.{total}
use Rattle.analysis.specs.Seats.{Seats}
use Rattle.analysis.specs.Weighing.{no_bounds, weigh_of}
use Rattle.weights.specs.declared.weight.Weight.{Weight}
use Rattle.weights.specs.Weights.{bounds_of, planned_with}
use Rattle.plans.specs.Sound.{Sound}
use Rattle.plans.proofs.Kept.{totals-short}
use Rattle.plans.proofs.Soundness.{weighed-sound}
use Rattle.trials.specs.Trials.{sum_of}

module _ (may : Relation) (m q : ℕ) (t : Table) (s : Seats) (weights : List Weight)
    (accepted : weigh_of may m q (listed t) s ≡ Ok (planned_with m q (listed t) s weights)) where
  accepted-sound : Sound (planned_with m q (listed t) s weights)
  accepted-sound = weighed-sound may m q (listed t) s (planned_with m q (listed t) s weights) accepted

  pub all-weighed : length weights ≡ length (listed t).tasks
  all-weighed = omega (arith, accepted-sound.terms, length-map weights (λ w. w.blocking))

  -- of the task k and the weight that is read at its place
  module _ (k : ℕ) (task : k < length (listed t).tasks) (x : Weight) (read : x ≡ get_or weights k x) where
    pub sum-small : total x.bounds ≤ 10000000
    sum-small =
        omega (arith, ap (λ (w : Weight). total w.bounds) read, totals-short s (vec_items t.tasks) weights weights accepted-sound.kept all-weighed refl k x (omega (arith, all-weighed)))

    pub sum_told : (sum : ℕ) → sum ≡ total x.bounds → sum_of k (weigh_of may m q (listed t) s) ≡ Ok sum
    sum_told sum e =
        let its : get_or (bounds_of weights) k no_bounds ≡ x.bounds =
        get_or-map (λ (w : Weight). w.bounds) weights k x no_bounds (omega (arith, all-weighed)) ∙ ap (λ (w : Weight). w.bounds) (sym read)
        in
        ap (sum_of k) accepted ∙ ap Ok (ap total its ∙ sym e)
