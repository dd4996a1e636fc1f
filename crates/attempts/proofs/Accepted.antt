-- What is found is accepted.
--
--   all_seated-each            as many seats as rows, each such a processor, are lawful ones
--   found-is-lawful            the seating that is found is lawful
--   bounds-exist               where each task is judged in time, there are bounds of all tasks
--   weighed                    under a lawful seating they are those of the plan
--   what-is-found-is-accepted  so weighing accepts what is found, since the seats of resources are lawful
use Rattle.std.proofs.Common.{◌≡◌, ℕ, ◌-◌, ◌<◌, ◌≤◌, true, not, List, length, get_or, Ok, Err, Result, refl, ap, ◌∙◌, arith}
use Rattle.std.proofs.lemmas.Bool.{and_from, and_parts, cond-false, eq-eqb, le-leb, leb-true, lt-ltb, not_from_true}
use Rattle.std.proofs.lemmas.List.{get_or_default}
use Rattle.std.proofs.lemmas.List.Sums.{list_all-from_AllPass}
use Rattle.disciplines.specs.Rules.{Relation}
use Rattle.tables.specs.Rows.{Row, Listing}
use Rattle.spreading.specs.Spreading.{spread_of}
use Rattle.spreading.proofs.Seats.{spread-length, spread-within}
use Rattle.analysis.specs.declared.lateness.WeighFault.{WeighFault}
use Rattle.analysis.specs.declared.lateness.WeighFault.TheVariants.{Box, Seat, Late, Memory}
use Rattle.analysis.specs.declared.part.Bounds.{Bounds}
use Rattle.analysis.specs.Blocking.{blocking}
use Rattle.analysis.specs.Judging.{judged}
use Rattle.analysis.specs.Seats.{Seats, all_from, all_seated, is_box, is_from, lawful}
use Rattle.analysis.specs.Weighing.{bounds_to, plan_with, weigh_of}
use Rattle.exactness.proofs.Tasks.{Outcome, bounds_to-at, outcome}
use Rattle.attempts.specs.Accepted.{What-is-found-is-accepted}
use Rattle.attempts.specs.Placing.{Found, fewest, find_seats, most}
use Rattle.attempts.proofs.Locality.{judged-front}
use Rattle.attempts.proofs.Seating.{AllSeated, ByAttempt, all-seated, found-by-attempt}

module _ (low high : ℕ) where
  -- the seat of row k is such a processor
  abbrev Within : List ℕ → ℕ → Type 0
  Within seats k = (low ≤ get_or seats k 0) × (get_or seats k 0 < high)

  all_from-each : (seats : List ℕ) → ((k : ℕ) → k < length seats → Within seats k) → all_from low high seats ≡ true
  all_from-each seats each =
      list_all-from_AllPass (is_from low high) seats
      (λ k d h. rw (get_or_default seats k d 0 h) (let here = each k h in and_from _ _ (le-leb _ _ here.0) (lt-ltb _ _ here.1)))

  all_seated-each : (rows : ℕ) (seats : List ℕ) → length seats ≡ rows → ((k : ℕ) → k < rows → Within seats k)
      → all_seated low high rows seats ≡ true
  all_seated-each rows seats e each = and_from _ _ (eq-eqb _ _ e) (all_from-each seats (λ k h. each k (omega arith)))

module _ (may : Relation) (s : Seats) (rows : List Row) (n : ℕ)
    (in-time : (k : ℕ) → k < n → (x : Bounds) × (judged s rows (blocking may s rows k) k ≡ Ok x))
  where
    -- no task is late, so the outcome is bounds
    bounds-since : (r : Result (List Bounds) WeighFault) → Outcome may s rows n r → (bounds : List Bounds) × (r ≡ Ok bounds)
    bounds-since (Ok bounds) o = (bounds, refl)
    bounds-since (Err (Late k lateness)) o =
        let yes = (in-time k o.task).1 in
        let no = o.here in
        let z : ◌≡◌ {A = ℕ} 0 1 = cc in
        absurd (omega arith)
    bounds-since (Err Box) o = absurd o
    bounds-since (Err Seat) o = absurd o
    bounds-since (Err Memory) o = absurd o

    bounds-exist : (bounds : List Bounds) × (bounds_to may s rows n ≡ Ok bounds)
    bounds-exist = bounds-since (bounds_to may s rows n) (outcome may s rows n)

module _ (may : Relation) (m q : ℕ) (t : Listing) (s : Seats) where
  weighed : lawful m q t s ≡ true → (bounds : List Bounds) → bounds_to may s t.tasks (length t.tasks) ≡ Ok bounds
      → weigh_of may m q t s ≡ plan_with may m q t s (Ok bounds)
  weighed sound bounds e =
      cond-false (not (is_box m)) _ _ (not_from_true _ (and_parts _ _ (and_parts _ _ sound).0).0)
      ∙ cond-false (not (lawful m q t s)) _ _ (not_from_true _ sound)
      ∙ ap (plan_with may m q t s) e

module _ (may : Relation) (m : ℕ) (t : Listing) (box : is_box m ≡ true) (found : Found) (e : find_seats may m t ≡ Ok found) where
  two-or-more : 2 ≤ m
  two-or-more = leb-true _ _ (and_parts _ _ box).0

  by-attempt : ByAttempt may m t (fewest t) (most m t) found
  by-attempt = found-by-attempt may m t two-or-more found e

  tasks-seated : AllSeated may t.tasks found.seats.resources (m - found.syncs) (length t.tasks) found.seats.tasks
  tasks-seated =
      all-seated may t.tasks found.seats.resources (m - found.syncs) (length t.tasks) found.seats.tasks
      by-attempt.homes

  -- the resources sit as they are spread
  resources-lawful : all_seated (m - found.syncs) m (length t.resources) found.seats.resources ≡ true
  resources-lawful =
      rw by-attempt.spread
      (all_seated-each (m - found.syncs) m (length t.resources) (spread_of t m found.syncs) (spread-length t m found.syncs)
      (λ k h. spread-within t m found.syncs (omega (arith, by-attempt.from_on)) (omega (arith, by-attempt.up_to)) k h))

  tasks-lawful : all_seated 0 (m - found.syncs) (length t.tasks) found.seats.tasks ≡ true
  tasks-lawful =
      all_seated-each 0 (m - found.syncs) (length t.tasks) found.seats.tasks tasks-seated.0
      (λ k h. (omega arith, (tasks-seated.1 k h).application))

  found-is-lawful : lawful m found.syncs t found.seats ≡ true
  found-is-lawful =
      and_from _ _ (and_from _ _ box (lt-ltb _ _ (omega (arith, two-or-more, by-attempt.up_to))))
      (and_from _ _ resources-lawful tasks-lawful)

-- a plan has the bounds that tasks were seated with: worse-ranked tasks were still without seats then, and neither a bound nor a
-- blocking term asks where those sit
pub what-is-found-is-accepted : What-is-found-is-accepted
what-is-found-is-accepted may m t box found e =
    let seated = (tasks-seated may m t box found e).1 in
    let exist =
    bounds-exist may found.seats t.tasks (length t.tasks) (λ k h. ((seated k h).bounds, (seated k h).in-time))
    in (
      _,
      weighed may m found.syncs t found.seats (found-is-lawful may m t box found e) exist.0 exist.1,
      λ k h. judged-front found.seats t.tasks (blocking may found.seats t.tasks k) k
          ∙ bounds_to-at may found.seats t.tasks (length t.tasks) exist.0 exist.1 k h,
    )
