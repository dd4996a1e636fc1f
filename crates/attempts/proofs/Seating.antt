-- What is known of a seating that is found.
--
--   first_passes      the first number that passes a test does pass it, and is one of those that were tried
--   AllSeated         so many tasks have seats: each sits on an application processor and is judged in time
--   all-seated        this holds of the seats of all tasks, where each finds one
--   ByAttempt         a seating comes from one attempt: it has the spread seats of resources, and the seats that tasks find
--   found-by-attempt  what is found comes from an attempt with the fewest synchronisation processors, or more up to the most
use Rattle.std.proofs.Common.{◌≡◌, ℕ, zero, suc, ◌+◌, ◌-◌, ◌<◌, ◌≤◌, Bool, true, List, [], ◌∷◌, ◌++◌, length, get_or, is_ok, IfOk, Some, None, Ok, Err, Option, Result, refl, ◌∙◌, subst, arith, below_more}
use Rattle.std.proofs.lemmas.List.{get_or_append_left, get_or_push, length_push}
use Rattle.std.proofs.lemmas.Result.{IfOk-at_ok}
use Rattle.std.proofs.lemmas.Bool.{cond_both, false≢true}
use Rattle.disciplines.specs.Rules.{Relation}
use Rattle.tables.specs.Rows.{Row, Listing}
use Rattle.spreading.specs.Spreading.{spread_of}
use Rattle.analysis.specs.declared.lateness.Lateness.TheVariants.{NoBound}
use Rattle.analysis.specs.declared.lateness.WeighFault.{WeighFault}
use Rattle.analysis.specs.declared.lateness.WeighFault.TheVariants.{Late}
use Rattle.analysis.specs.declared.part.Bounds.{Bounds}
use Rattle.analysis.specs.declared.part.PartKind.TheVariants.{Critical}
use Rattle.analysis.specs.Judging.{judged}
use Rattle.analysis.specs.Seats.{Seats}
use Rattle.attempts.specs.Placing.{Found, attempt, attempts, fewest, find_seats, first_of, found_with, goes_to, has_critical, most}
use Rattle.attempts.specs.Placing.{seat_next, seat_tasks, term, tried, with_seat}
use Rattle.attempts.proofs.Locality.{judged-same}

-- a result that is Ok holds something
ok-since : {T E : Type 0} (r : Result T E) → is_ok r ≡ true → (x : T) × (r ≡ Ok x)
ok-since (Ok x) e = (x, refl)
ok-since (Err y) e = absurd (false≢true e)

-- what holds of the second of two steps holds of both, if it follows from what holds of the first
made_then : {X Y E : Type 0} (P : X → Type 0) (Q : Y → Type 0) (f : X → Result Y E) (r : Result X E)
    → IfOk r P → ((x : X) → P x → IfOk (f x) Q) → IfOk (elim r [ Ok x ↦ f x | Err e ↦ Err e ]) Q
made_then P Q f (Ok x) h next = next x h
made_then P Q f (Err e) h next = tt

module _ (passes : ℕ → Bool) (limit : ℕ) where
  -- a number, if there is one, passes the test and lies below the limit
  abbrev Passing : Option ℕ → Type 0
  Passing None = Unit {0}
  Passing (Some p) = (passes p ≡ true) × (p < limit)

  first_passes : (n p : ℕ) → p + n ≤ limit → Passing (first_of passes n p)
  first_passes zero p h = tt
  first_passes (suc n) p h =
      cond_both (passes p) (Some p) (first_of passes n (p + 1)) Passing
      (λ e. (e, omega arith)) (λ _. first_passes n (p + 1) (omega arith))

module _ (may : Relation) (rows : List Row) (sites : List ℕ) (apps : ℕ) where
  -- where resources sit, and the tasks that have seats
  abbrev seats_with : List ℕ → Seats
  seats_with homes = record { resources = sites; tasks = homes }

  -- the task of rank k sits on an application processor, and is judged in time
  pub record InPlace (homes : List ℕ) (k : ℕ) : Type 0 where
    pub application : get_or homes k 0 < apps
    pub bounds : Bounds
    pub in-time : judged (seats_with homes) rows (term may rows sites k) k ≡ Ok bounds

  abbrev pub AllSeated : ℕ → List ℕ → Type 0
  AllSeated n homes = (length homes ≡ n) × ((k : ℕ) → k < n → InPlace homes k)

  module _ (homes : List ℕ) (p : ℕ) where
    -- a task keeps its place when a worse-ranked one gets a seat
    stays-in-place : (k : ℕ) → k < length homes → InPlace homes k → InPlace (homes ++ p ∷ []) k
    stays-in-place k h x =
        let same = λ (i : ℕ) (l : i ≤ k). get_or_append_left homes (p ∷ []) 0 i (omega arith) in
        record {
          application = rw (same k (omega arith)) x.application;
          bounds = x.bounds;
          in-time = judged-same (seats_with (homes ++ p ∷ [])) (seats_with homes) rows k
              (record { sites = refl; homes = same }) (term may rows sites k) ∙ x.in-time;
        }

    -- and the next one is in place on a processor on which it is tried with success
    gets-in-place : p < apps → is_ok (tried may rows sites homes p) ≡ true → InPlace (homes ++ p ∷ []) (length homes)
    gets-in-place h e =
        let x = ok-since (tried may rows sites homes p) e in
        record { application = rw (get_or_push homes p 0 (length homes) refl) h; bounds = x.0; in-time = x.1 }

    one-more-seated : (n : ℕ) → AllSeated n homes → is_ok (tried may rows sites homes p) ≡ true → p < apps
        → AllSeated (n + 1) (homes ++ p ∷ [])
    one-more-seated n x e h = (
      omega (arith, length_push homes p, x.0),
      below_more (InPlace (homes ++ p ∷ [])) n (λ k l. stays-in-place k (omega (arith, x.0)) (x.1 k l))
          (subst (InPlace (homes ++ p ∷ [])) x.0 (gets-in-place h e)),
    )

  -- what a search for a seat gives, if anything, is a seat for the next task
  with-seat : (n : ℕ) (homes : List ℕ) → AllSeated n homes → (o : Option ℕ)
      → Passing (λ p. is_ok (tried may rows sites homes p)) apps o → IfOk (with_seat may rows sites homes o) (AllSeated (n + 1))
  with-seat n homes x None found = tt
  with-seat n homes x (Some p) found = one-more-seated homes p n x found.0 found.1

  next-seated : (n : ℕ) (homes : List ℕ) → AllSeated n homes → IfOk (seat_next may rows sites apps homes) (AllSeated (n + 1))
  next-seated n homes x =
      cond_both (has_critical may rows sites (length homes)) (with_seat may rows sites homes (goes_to may rows sites apps homes))
      (Err (Late (length homes) (NoBound Critical))) (λ r. IfOk r (AllSeated (n + 1)))
      (λ _. with-seat n homes x (goes_to may rows sites apps homes)
      (first_passes (λ p. is_ok (tried may rows sites homes p)) apps apps 0 (omega arith)))
      (λ _. tt)

  -- where so many are done, n more make all of them
  rest-seated : (all n done : ℕ) (homes : List ℕ) → done + n ≡ all → AllSeated done homes
      → IfOk (seat_tasks may rows sites apps n homes) (AllSeated all)
  rest-seated all zero done homes e x = (omega (arith, x.0), λ k h. x.1 k (omega arith))
  rest-seated all (suc n) done homes e x =
      made_then (AllSeated (done + 1)) (AllSeated all) (seat_tasks may rows sites apps n) (seat_next may rows sites apps homes)
      (next-seated done homes x) (λ more y. rest-seated all n (done + 1) more (omega arith) y)

  pub all-seated : (n : ℕ) (homes : List ℕ) → seat_tasks may rows sites apps n [] ≡ Ok homes → AllSeated n homes
  all-seated n homes e =
      IfOk-at_ok (AllSeated n) e (rest-seated n n 0 [] (omega arith) (refl, λ k h. absurd (omega arith)))

module _ (may : Relation) (m : ℕ) (t : Listing) where
  pub record ByAttempt (from to : ℕ) (found : Found) : Type 0 where
    pub from_on : from ≤ found.syncs
    pub up_to : found.syncs ≤ to
    pub spread : found.seats.resources ≡ spread_of t m found.syncs
    pub homes :
        seat_tasks may t.tasks found.seats.resources (m - found.syncs) (length t.tasks) [] ≡ Ok found.seats.tasks

  module _ (from to : ℕ) where
    -- the seating comes from this attempt if it seats every task, and else from what is tried after it
    this-or-later : (q : ℕ) → from ≤ q → q ≤ to → (r : Result (List ℕ) WeighFault) → attempt may m t q ≡ r
        → (later : WeighFault → Result Found WeighFault) → ((fault : WeighFault) → IfOk (later fault) (ByAttempt from to))
        → IfOk (elim r [ Ok homes ↦ Ok (found_with may m t q homes) | Err fault ↦ later fault ]) (ByAttempt from to)
    this-or-later q low high (Ok homes) e later so = record { from_on = low; up_to = high; spread = refl; homes = e }
    this-or-later q low high (Err fault) e later so = so fault

    by-attempts : (n q : ℕ) → from ≤ q → q + n ≤ to → IfOk (attempts may m t n q) (ByAttempt from to)
    by-attempts zero q low high = this-or-later q low (omega arith) (attempt may m t q) refl Err (λ fault. tt)
    by-attempts (suc n) q low high =
        this-or-later q low (omega arith) (attempt may m t q) refl (λ fault. attempts may m t n (q + 1))
        (λ fault. by-attempts n (q + 1) (omega arith) (omega arith))

  -- with two processors or more, the fewest are no more than the most
  pub found-by-attempt : 2 ≤ m → (found : Found) → find_seats may m t ≡ Ok found
      → ByAttempt (fewest t) (most m t) found
  found-by-attempt h found e =
      IfOk-at_ok (ByAttempt (fewest t) (most m t)) e
      (by-attempts (fewest t) (most m t) (most m t - fewest t) (fewest t) (omega arith) (omega arith))
