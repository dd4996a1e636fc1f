-- Each loop of the search for seats keeps that what is left gives the whole answer.
--
--   first_of-..  processors: the next is passed over, is taken, or none is left
--   asked        what the code asks of a processor
--   seat-found   a task that a processor takes has its seat there
--   seat-missed  one that none takes is late
--   tasks-..     tasks: the next has its seat, finds none, or none is left
--   attempts-..  attempts: this one fails and others are left, it is the last, or it seats every task
use Rattle.std.proofs.Common.{◌≡◌, ℕ, zero, suc, ◌+◌, ◌-◌, ◌<◌, ◌≤◌, Bool, true, false, List, [], ◌∷◌, ◌++◌, length, is_some, is_ok, Some, None, Ok, Err, Option, Result, sym, refl, ap, ◌∙◌, arith}
use Rattle.std.proofs.lemmas.Bool.{both_ways, cond-true, cond-false}
use Rattle.disciplines.specs.Rules.{Relation}
use Rattle.tables.specs.Rows.{Row, Listing}
use Rattle.analysis.specs.declared.lateness.Lateness.TheVariants.{NoBound}
use Rattle.analysis.specs.declared.lateness.WeighFault.{WeighFault}
use Rattle.analysis.specs.declared.lateness.WeighFault.TheVariants.{Late}
use Rattle.analysis.specs.declared.part.Bounds.{Bounds}
use Rattle.analysis.specs.declared.part.PartKind.TheVariants.{Before, Critical}
use Rattle.analysis.specs.Judging.{bound, judged_with}
use Rattle.analysis.specs.Seats.{Seats}
use Rattle.attempts.specs.Placing.{Found, attempt, attempts, first_of, found_with, goes_to, has_critical, seat_next, seat_tasks, term, tried, with_seat}
use Rattle.placement.specs.Seatings.{late_with}

minus-step : (a b : ℕ) → b < a → a - b ≡ suc (a - (b + 1))
minus-step a b h = omega arith

module _ (f : ℕ → Bool) (n p : ℕ) where
  pub first_of-no : p < n → f p ≡ false → first_of f (n - p) p ≡ first_of f (n - (p + 1)) (p + 1)
  first_of-no h e = rw (minus-step n p h) (cond-false (f p) _ _ e)

  pub first_of-yes : p < n → f p ≡ true → first_of f (n - p) p ≡ Some p
  first_of-yes h e = rw (minus-step n p h) (cond-true (f p) _ _ e)

  pub first_of-end : n ≤ p → first_of f (n - p) p ≡ None
  first_of-end h = let z : n - p ≡ 0 = omega arith in rw z

module _ (may : Relation) (rows : List Row) (sites : List ℕ) where
  -- the bound of a task's critical part
  abbrev pub critical_at : ℕ → Option ℕ
  critical_at k = bound (record { resources = sites; tasks = [] }) rows (term may rows sites k) Critical k

  tried-is : (homes : List ℕ) (p k : ℕ) (critical : Option ℕ) (fits : Bool) → critical ≡ critical_at k → length homes ≡ k
      → fits ≡ is_ok (judged_with (record { resources = sites; tasks = homes ++ p ∷ [] }) rows 0 critical (length homes))
      → is_ok (tried may rows sites homes p) ≡ fits
  tried-is homes p k critical fits c l e =
      sym (e ∙ ap (λ (o : Option ℕ). is_ok (judged_with (record { resources = sites; tasks = homes ++ p ∷ [] }) rows 0 o (length homes))) (c ∙ ap critical_at (sym l)))

  -- the same where the seats so far are told twice
  pub asked : (homes now : List ℕ) (p k : ℕ) (critical : Option ℕ) (fits : Bool) → now ≡ homes → length homes ≡ k → critical ≡ critical_at k
      → fits ≡ is_ok (judged_with (record { resources = sites; tasks = now ++ p ∷ [] }) rows 0 critical (length now))
      → is_ok (tried may rows sites homes p) ≡ fits
  asked homes now p k critical fits en l c e =
      tried-is homes p k critical fits c l
      (e ∙ ap (λ (x : List ℕ). is_ok (judged_with (record { resources = sites; tasks = x ++ p ∷ [] }) rows 0 critical (length x))) en)

  -- a task with no critical bound is never in time
  never : (o : Option ℕ) (s : Seats) (k : ℕ) → is_ok (judged_with s rows 0 o k) ≡ true → is_some o ≡ true
  never (Some c) s k e = refl
  never None s k e = absurd (unbound (bound s rows 0 Before k) e)
    where
      unbound : (before : Option ℕ) → is_ok {T = Bounds} (elim before [ None ↦ Err (NoBound Before) | Some b ↦ Err (NoBound Critical) ]) ≡ true → ⊥
      unbound None h = both_ways false refl h
      unbound (Some b) h = both_ways false refl h

  pub seat-found : (apps p : ℕ) (homes : List ℕ) → is_ok (tried may rows sites homes p) ≡ true → goes_to may rows sites apps homes ≡ Some p
      → seat_next may rows sites apps homes ≡ Ok (homes ++ p ∷ [])
  seat-found apps p homes taken e =
      cond-true (has_critical may rows sites (length homes)) _ _ (never (critical_at (length homes)) (record { resources = sites; tasks = homes ++ p ∷ [] }) (length homes) taken)
      ∙ ap (with_seat may rows sites homes) e

  pub seat-missed : (apps k : ℕ) (homes : List ℕ) (critical : Option ℕ) → critical ≡ critical_at k → length homes ≡ k → goes_to may rows sites apps homes ≡ None
      → seat_next may rows sites apps homes ≡ Err (Late k (late_with critical))
  seat-missed apps k homes critical c l e = by critical (c ∙ ap critical_at (sym l)) ∙ ap (λ (n : ℕ). Err (Late n (late_with critical))) l
    where
      by : (o : Option ℕ) → o ≡ critical_at (length homes) → seat_next may rows sites apps homes ≡ Err (Late (length homes) (late_with o))
      by None h = cond-false (has_critical may rows sites (length homes)) _ _ (ap is_some (sym h))
      by (Some x) h = cond-true (has_critical may rows sites (length homes)) _ _ (ap is_some (sym h)) ∙ ap (with_seat may rows sites homes) e

  -- the other tasks after one more
  abbrev after : ℕ → ℕ → Result (List ℕ) WeighFault → Result (List ℕ) WeighFault
  after apps n r = elim r [ Ok more ↦ seat_tasks may rows sites apps n more | Err fault ↦ Err fault ]

  opened : (apps n k : ℕ) (homes : List ℕ) → k < n
      → seat_tasks may rows sites apps (n - k) homes ≡ after apps (n - (k + 1)) (seat_next may rows sites apps homes)
  opened apps n k homes h = ap (λ (x : ℕ). seat_tasks may rows sites apps x homes) (minus-step n k h)

  pub tasks-on : (apps n k : ℕ) (homes more : List ℕ) → k < n → seat_next may rows sites apps homes ≡ Ok more
      → seat_tasks may rows sites apps (n - k) homes ≡ seat_tasks may rows sites apps (n - (k + 1)) more
  tasks-on apps n k homes more h e = opened apps n k homes h ∙ ap (after apps (n - (k + 1))) e

  pub tasks-off : (apps n k : ℕ) (homes : List ℕ) (fault : WeighFault) → k < n → seat_next may rows sites apps homes ≡ Err fault
      → seat_tasks may rows sites apps (n - k) homes ≡ Err fault
  tasks-off apps n k homes fault h e = opened apps n k homes h ∙ ap (after apps (n - (k + 1))) e

  pub tasks-end : (apps n k : ℕ) (homes : List ℕ) → n ≤ k → seat_tasks may rows sites apps (n - k) homes ≡ Ok homes
  tasks-end apps n k homes h = let z : n - k ≡ 0 = omega arith in ap (λ (x : ℕ). seat_tasks may rows sites apps x homes) z

  -- no processor takes the next task, so the attempt fails with it
  pub none-takes : (apps k p : ℕ) (homes : List ℕ) (critical : Option ℕ) → length homes ≡ k → k < length rows → apps ≤ p → critical ≡ critical_at k
      → first_of (λ x. is_ok (tried may rows sites homes x)) (apps - p) p ≡ goes_to may rows sites apps homes
      → seat_tasks may rows sites apps (length rows - k) homes ≡ Err (Late k (late_with critical))
  none-takes apps k p homes critical l h end c left =
      tasks-off apps (length rows) k homes _ h
      (seat-missed apps k homes critical c l
      (sym left ∙ first_of-end (λ x. is_ok (tried may rows sites homes x)) apps p end))

module _ (may : Relation) (m : ℕ) (t : Listing) where
  abbrev last-try : ℕ → Result (List ℕ) WeighFault → Result Found WeighFault
  last-try q r = elim r [ Ok homes ↦ Ok (found_with may m t q homes) | Err fault ↦ Err fault ]

  abbrev then-try : ℕ → ℕ → Result (List ℕ) WeighFault → Result Found WeighFault
  then-try n q r = elim r [ Ok homes ↦ Ok (found_with may m t q homes) | Err fault ↦ attempts may m t n (q + 1) ]

  pub attempts-on : (last q : ℕ) (fault : WeighFault) → q < last → attempt may m t q ≡ Err fault
      → attempts may m t (last - q) q ≡ attempts may m t (last - (q + 1)) (q + 1)
  attempts-on last q fault h e = ap (λ (x : ℕ). attempts may m t x q) (minus-step last q h) ∙ ap (then-try (last - (q + 1)) q) e

  pub attempts-last : (last q : ℕ) (fault : WeighFault) → last ≡ q → attempt may m t q ≡ Err fault → attempts may m t (last - q) q ≡ Err fault
  attempts-last last q fault same e = let z : last - q ≡ 0 = omega arith in ap (λ (x : ℕ). attempts may m t x q) z ∙ ap (last-try q) e

  pub attempts-done : (n q : ℕ) (homes : List ℕ) → attempt may m t q ≡ Ok homes → attempts may m t n q ≡ Ok (found_with may m t q homes)
  attempts-done zero q homes e = ap (last-try q) e
  attempts-done (suc n) q homes e = ap (then-try n q) e
