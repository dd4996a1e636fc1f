-- The plan of a table under a seating, or why there is none.
--
--   Planned    what a plan holds
--   keeps      whether a plan's numbers meet the inequalities of every task with the plan's own blocking terms
--   terms_to   the blocking terms of the first n tasks
--   bounds_to  the bounds of the first n tasks, or the first of them that is late
--   weigh_of   the plan of a table, m processors and a seating with q synchronisation processors; else the first of these: the box
--             is none, the seating is not lawful, a task is late
use Rattle.std.specs.Prelude.{ℕ, zero, suc, Bool, true, cond, not, ◌&&◌, List, [], ◌∷◌, ◌++◌, length, Ok, Err, Result, slice_index, slice_index_or}
use Rattle.disciplines.specs.Rules.{Relation}
use Rattle.tables.specs.Rows.{Row, Listing}
use Rattle.analysis.specs.declared.lateness.Lateness.{Lateness}
use Rattle.analysis.specs.declared.lateness.WeighFault.{WeighFault}
use Rattle.analysis.specs.declared.lateness.WeighFault.TheVariants.{Box, Seat, Late}
use Rattle.analysis.specs.declared.part.Bounds.{Bounds}
use Rattle.analysis.specs.Blocking.{blocking}
use Rattle.analysis.specs.Judging.{fits, judged}
use Rattle.analysis.specs.Seats.{Seats, is_box, lawful}

pub record Planned : Type 0 where
  pub processors : ℕ
  pub syncs : ℕ
  pub seats : Seats
  pub table : Listing
  pub blocking : List ℕ
  pub bounds : List Bounds

-- what stands past the last task's bounds
abbrev pub no_bounds : Bounds
no_bounds = record { before = 0; critical = 0; after = 0 }

-- whether f holds of the first n numbers, from 0 on
abbrev pub all_to : (ℕ → Bool) → ℕ → Bool
all_to f zero = true
all_to f (suc n) = all_to f n && f n

abbrev pub keeps : Seats → List Row → List ℕ → List Bounds → Bool
keeps s rows terms bounds = all_to (λ k. fits s rows (slice_index terms k) k (slice_index_or bounds k no_bounds)) (length rows)

module _ (may : Relation) (s : Seats) (rows : List Row) where
  abbrev pub terms_to : ℕ → List ℕ
  terms_to zero = []
  terms_to (suc n) = terms_to n ++ blocking may s rows n ∷ []

  -- the bounds of the tasks before rank k, and how task k is judged
  abbrev pub with_task : ℕ → List Bounds → Result Bounds Lateness → Result (List Bounds) WeighFault
  with_task k bounds (Ok x) = Ok (bounds ++ x ∷ [])
  with_task k bounds (Err lateness) = Err (Late k lateness)

  -- a late task stands; otherwise it is for the next one
  abbrev pub or_late : ℕ → Result (List Bounds) WeighFault → Result (List Bounds) WeighFault
  or_late k (Ok bounds) = with_task k bounds (judged s rows (blocking may s rows k) k)
  or_late k (Err fault) = Err fault

  abbrev pub bounds_to : ℕ → Result (List Bounds) WeighFault
  bounds_to zero = Ok []
  bounds_to (suc n) = or_late n (bounds_to n)

-- the plan with these bounds
abbrev pub plan_with : Relation → ℕ → ℕ → Listing → Seats → Result (List Bounds) WeighFault → Result Planned WeighFault
plan_with may m q t s (Ok bounds) =
    Ok (record { processors = m; syncs = q; seats = s; table = t; blocking = terms_to may s t.tasks (length t.tasks); bounds = bounds })
plan_with may m q t s (Err fault) = Err fault

abbrev pub weigh_of : Relation → ℕ → ℕ → Listing → Seats → Result Planned WeighFault
weigh_of may m q t s =
    cond (not (is_box m)) (Err Box)
    (cond (not (lawful m q t s)) (Err Seat)
    (plan_with may m q t s (bounds_to may s t.tasks (length t.tasks))))
