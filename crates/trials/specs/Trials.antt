-- What a trial answers.
--
--   seated_on  the seats with one task on processor p
--   sum_of     the sum of a task's bounds in the plan that weighing answers, or its fault
--   tried_of   the sum of a task's bounds if it sat on processor p; else the first of these: the box is none, there is no task of
--             that number, weighing refuses the seating
--   Tried     a call's answer is what the definition wants, unless memory was wanting
use Rattle.std.specs.Prelude.{◌≡◌, ℕ, cond, not, length, Ok, Err, Result, nat_lt, slice_index_or, slice_set}
use Rattle.disciplines.specs.Rules.{Relation}
use Rattle.tables.specs.Rows.{Listing}
use Rattle.analysis.specs.declared.lateness.WeighFault.{WeighFault}
use Rattle.analysis.specs.declared.lateness.WeighFault.TheVariants.{Box, Seat, Late, Memory}
use Rattle.analysis.specs.Parts.{total}
use Rattle.analysis.specs.Seats.{Seats, is_box}
use Rattle.analysis.specs.Weighing.{Planned, no_bounds, weigh_of}
use Rattle.trials.specs.declared.fault.TrialFault.{TrialFault}
use Rattle.trials.specs.declared.fault.TrialFault.TheVariants.{NoTask, Weigh}

-- past the last seat nothing is changed: a task that has no seat gets none, and weighing refuses the seating for it
abbrev pub seated_on : Seats → ℕ → ℕ → Seats
seated_on s task p = record { resources = s.resources; tasks = slice_set s.tasks task p }

abbrev pub sum_of : ℕ → Result Planned WeighFault → Result ℕ TrialFault
sum_of task (Ok plan) = Ok (total (slice_index_or plan.bounds task no_bounds))
sum_of task (Err fault) = Err (Weigh fault)

abbrev pub tried_of : Relation → ℕ → ℕ → Listing → Seats → ℕ → ℕ → Result ℕ TrialFault
tried_of may m q t s task p =
    cond (not (is_box m)) (Err (Weigh Box))
    (cond (not (nat_lt task (length t.tasks))) (Err NoTask)
    (sum_of task (weigh_of may m q t (seated_on s task p))))

abbrev pub Tried : Result ℕ TrialFault → Result ℕ TrialFault → Type 0
Tried (Ok sum) wanted = wanted ≡ Ok sum
Tried (Err NoTask) wanted = wanted ≡ Err NoTask
Tried (Err (Weigh Box)) wanted = wanted ≡ Err (Weigh Box)
Tried (Err (Weigh Seat)) wanted = wanted ≡ Err (Weigh Seat)
Tried (Err (Weigh (Late k lateness))) wanted = wanted ≡ Err (Weigh (Late k lateness))
Tried (Err (Weigh Memory)) wanted = Unit {0}
