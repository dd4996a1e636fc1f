-- What is found is accepted, with the same bounds.
use Rattle.std.specs.Prelude.{◌≡◌, ℕ, ◌+◌, ◌<◌, true, length, take, Ok, slice_index_or}
use Rattle.disciplines.specs.Rules.{Relation}
use Rattle.tables.specs.Rows.{Listing}
use Rattle.analysis.specs.Judging.{judged}
use Rattle.analysis.specs.Seats.{is_box}
use Rattle.analysis.specs.Weighing.{Planned, no_bounds, weigh_of}
use Rattle.attempts.specs.Placing.{Found, find_seats, term}

-- the plan has for each task the bounds that it was seated with, when only the better-ranked tasks had seats
abbrev pub SameBounds : Relation → Listing → Found → Planned → Type 0
SameBounds may t found plan =
    (k : ℕ) → k < length t.tasks
    → judged (record { resources = found.seats.resources; tasks = take (k + 1) found.seats.tasks }) t.tasks
    (term may t.tasks found.seats.resources k) k ≡ Ok (slice_index_or plan.bounds k no_bounds)

-- in a box, weighing accepts the seating that is found
abbrev pub Accepted : Relation → ℕ → Listing → Type 0
Accepted may m t =
    is_box m ≡ true → (found : Found) → find_seats may m t ≡ Ok found
    → (plan : Planned) × (weigh_of may m found.syncs t found.seats ≡ Ok plan) × SameBounds may t found plan

abbrev pub What-is-found-is-accepted : Type 0
What-is-found-is-accepted = (may : Relation) (m : ℕ) (t : Listing) → Accepted may m t
