-- The seating that is found for a table.
--
--   Found       a seating: how many of the last processors are synchronisation processors, and who sits where
--   tried       how the next task is judged on a processor, after the tasks that have seats
--   goes_to     the first application processor on which its bounds exist and fit
--   seat_next   the seats with one task more; else how it is late
--   seat_tasks  the same for n more tasks, in rank order
--   attempt     the seats of all tasks with q synchronisation processors; else the first task that finds none
--   attempts    the first attempt that seats every task, from q on and at most n more; else the last one's failure
--   find_seats  the seating that is found for a box of m processors
--   place_of    the plan of that seating
use Rattle.std.specs.Prelude.{ℕ, zero, suc, ◌+◌, ◌-◌, min, Bool, cond, not, List, [], ◌∷◌, ◌++◌, length, is_some, is_ok, Some, None, Ok, Err, Option, Result}
use Rattle.disciplines.specs.Rules.{Relation}
use Rattle.tables.specs.Rows.{Row, Listing}
use Rattle.spreading.specs.Spreading.{spread_of}
use Rattle.analysis.specs.declared.lateness.Lateness.{Lateness}
use Rattle.analysis.specs.declared.lateness.Lateness.TheVariants.{NoBound, Whole}
use Rattle.analysis.specs.declared.lateness.WeighFault.{WeighFault}
use Rattle.analysis.specs.declared.lateness.WeighFault.TheVariants.{Box, Late}
use Rattle.analysis.specs.declared.part.Bounds.{Bounds}
use Rattle.analysis.specs.declared.part.PartKind.TheVariants.{Critical}
use Rattle.analysis.specs.Blocking.{blocking}
use Rattle.analysis.specs.Judging.{bound, judged}
use Rattle.analysis.specs.Seats.{Seats, is_box}
use Rattle.analysis.specs.Weighing.{Planned, weigh_of}

pub record Found : Type 0 where
  pub syncs : ℕ
  pub seats : Seats

-- the first of the n numbers from p on that passes a test
abbrev pub first_of : (ℕ → Bool) → ℕ → ℕ → Option ℕ
first_of passes zero p = None
first_of passes (suc n) p = cond (passes p) (Some p) (first_of passes n (p + 1))

-- rows and the processors of resources stay as they are; homes has the processors of the tasks that are seated, and the next
-- task is the one of rank `length homes`
module _ (may : Relation) (rows : List Row) (sites : List ℕ) where
  -- a blocking term does not ask where tasks sit
  abbrev pub term : ℕ → ℕ
  term k = blocking may (record { resources = sites; tasks = [] }) rows k

  abbrev pub tried : List ℕ → ℕ → Result Bounds Lateness
  tried homes p = judged (record { resources = sites; tasks = homes ++ p ∷ [] }) rows (term (length homes)) (length homes)

  abbrev pub goes_to : ℕ → List ℕ → Option ℕ
  goes_to apps homes = first_of (λ p. is_ok (tried homes p)) apps 0

  -- nor does the bound of a critical part
  abbrev pub has_critical : ℕ → Bool
  has_critical k = is_some (bound (record { resources = sites; tasks = [] }) rows (term k) Critical k)

  -- a task that no processor takes is late as a whole
  abbrev pub with_seat : List ℕ → Option ℕ → Result (List ℕ) WeighFault
  with_seat homes None = Err (Late (length homes) Whole)
  with_seat homes (Some p) = Ok (homes ++ p ∷ [])

  abbrev pub seat_next : ℕ → List ℕ → Result (List ℕ) WeighFault
  seat_next apps homes = cond (has_critical (length homes)) (with_seat homes (goes_to apps homes)) (Err (Late (length homes) (NoBound Critical)))

  abbrev pub seat_tasks : ℕ → ℕ → List ℕ → Result (List ℕ) WeighFault
  seat_tasks apps zero homes = Ok homes
  seat_tasks apps (suc n) homes = elim (seat_next apps homes) [ Ok more ↦ seat_tasks apps n more | Err fault ↦ Err fault ]

-- from one synchronisation processor on; none without a resource
abbrev pub fewest : Listing → ℕ
fewest t = min 1 (length t.resources)

-- at most one for each resource, and one processor is left for tasks
abbrev pub most : ℕ → Listing → ℕ
most m t = min (m - 1) (length t.resources)

module _ (may : Relation) (m : ℕ) (t : Listing) where
  abbrev pub attempt : ℕ → Result (List ℕ) WeighFault
  attempt q = seat_tasks may t.tasks (spread_of t m q) (m - q) (length t.tasks) []

  -- the seating of an attempt that seats every task
  abbrev pub found_with : ℕ → List ℕ → Found
  found_with q homes = record { syncs = q; seats = record { resources = spread_of t m q; tasks = homes } }

  abbrev pub attempts : ℕ → ℕ → Result Found WeighFault
  attempts zero q = elim (attempt q) [ Ok homes ↦ Ok (found_with q homes) | Err fault ↦ Err fault ]
  attempts (suc n) q = elim (attempt q) [ Ok homes ↦ Ok (found_with q homes) | Err fault ↦ attempts n (q + 1) ]

  abbrev pub find_seats : Result Found WeighFault
  find_seats = attempts (most m t - fewest t) (fewest t)

  -- the plan of what is found
  abbrev pub weigh_found : Result Found WeighFault → Result Planned WeighFault
  weigh_found (Ok found) = weigh_of may m found.syncs t found.seats
  weigh_found (Err fault) = Err fault

  abbrev pub place_of : Result Planned WeighFault
  place_of = cond (not (is_box m)) (Err Box) (weigh_found find_seats)
