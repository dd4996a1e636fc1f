-- Every resource has its turn: a round seats one that has no seat, as long as there is one.
use Rattle.std.proofs.Common.{◌≡◌, ℕ, zero, suc, ◌+◌, ◌<◌, ◌≤◌, Bool, true, false, cond, not, ◌&&◌, ◌||◌, ltb, List, [], ◌∷◌, length, get_or, set, replicate, sym, refl, ap, ◌∙◌, ⊎_elim, arith}
use Rattle.std.proofs.lemmas.List.{get_or-replicate, get_or-set_same, get_or-set_other, set-get_or}
use Rattle.std.proofs.lemmas.Bool.{both_ways, cases_Bool, cases_eq}
use Rattle.std.proofs.lemmas.Bool.Decides.{nat_tests}
use Rattle.std.specs.List.{sum_by}
use Rattle.std.proofs.lemmas.List.Sums.{get_or-le-sum_by, sum_by-cons, sum_by-set}
use Rattle.spreading.specs.Placed.{AllPlaced, taker, turn}
use Rattle.spreading.specs.Spreading.{first_best, goes_first, rounds, seats_for}
use Rattle.spreading.proofs.FirstBest.{best-within}
use Rattle.spreading.proofs.Rounds.{seats-length, seated-length}

-- how many have no seat yet: the sum of 1 for each
abbrev waiting : Bool → ℕ
waiting seated = cond (not seated) 1 0

abbrev left : List Bool → ℕ
left s = sum_by waiting s

left-none : (s : List Bool) → ((k : ℕ) → k < length s → get_or s k false ≡ true) → left s ≡ 0
left-none [] all = refl
left-none (b ∷ s) all = omega (arith, sum_by-cons waiting b s, ap waiting (all 0 (omega arith)), left-none s (λ k h. all (suc k) (omega arith)))

none_left : (s : List Bool) → left s ≡ 0 → (k : ℕ) → k < length s → get_or s k false ≡ true
none_left s e k h = ⊎_elim (λ full. full) (λ (free : get_or s k false ≡ false). absurd (omega (arith, ap waiting free, get_or-le-sum_by waiting s k false h))) (cases_Bool (get_or s k false))

left-start : (n : ℕ) → left (replicate n false) ≡ n
left-start zero = refl
left-start (suc n) = omega (arith, sum_by-cons waiting false (replicate n false), left-start n)

left-set : (s : List Bool) (r : ℕ) → r < length s → get_or s r false ≡ false → left (set s r true) + 1 ≡ left s
left-set s r h free = omega (arith, sum_by-set waiting s r true false h, ap waiting free)

-- a choice between two that has a seat shows that both have one
both-seated : (at : ℕ → Bool) (n b : ℕ) (more : Bool) → at (cond (not (at n) && (at b || more)) n b) ≡ true → (at n ≡ true) × (at b ≡ true)
both-seated at n b more full = grind (arith, nat_tests)

-- where the best of the first n has a seat, all of them have one
best-seated : (ls : List ℕ) (s : List Bool) (n : ℕ) → get_or s (first_best (goes_first ls s) n) false ≡ true → (k : ℕ) → k < n → get_or s k false ≡ true
best-seated ls s zero full k h = absurd (omega arith)
best-seated ls s (suc n) full k h =
    let best = first_best (goes_first ls s) n in
    let both = both-seated (λ i. get_or s i false) n best (ltb (get_or ls best 0) (get_or ls n 0)) full in
    ⊎_elim (λ e. ap (λ i. get_or s i false) e ∙ both.0) (λ (ne : k ≡ n → ⊥). best-seated ls s n both.1 k (omega arith)) (cases_eq k n)

module _ (ls : List ℕ) (m q : ℕ) where
  left-rounds : (n : ℕ) → n ≤ length ls → left (rounds ls m q n).seated + n ≤ length ls
  left-rounds zero h = omega (arith, left-start (length ls))
  left-rounds (suc n) h =
      let s = (rounds ls m q n).seated in
      let r = turn ls m q n in
      let long = seated-length ls m q n in
      let before = left-rounds n (omega arith) in
      let within = best-within (goes_first ls s) (length ls) (omega arith) in
      ⊎_elim
      (λ (full : get_or s r false ≡ true).
      let none = left-none s (λ k l. best-seated ls s (length ls) full k (omega arith)) in
      let same = ap (λ b. left (set s r b)) (sym full) ∙ ap left (set-get_or s r false) in omega arith)
      (λ (free : get_or s r false ≡ false). omega (arith, left-set s r (omega arith) free))
      (cases_Bool (get_or s r false))

  -- a resource that is seated after n rounds sits where one of them put it
  placed-in : (n k : ℕ) → k < length ls → get_or (rounds ls m q n).seated k false ≡ true → (j : ℕ) × (j < n) × (turn ls m q j ≡ k) × (get_or (rounds ls m q n).seats k 0 ≡ taker ls m q j)
  placed-in zero k h full = absurd (both_ways _ (get_or-replicate (length ls) k false false h) full)
  placed-in (suc n) k h full =
      let s = rounds ls m q n in
      let r = turn ls m q n in
      ⊎_elim
      (λ (e : k ≡ r). (n, omega arith, sym e, ap (λ i. get_or (set s.seats r (taker ls m q n)) i 0) e ∙ get_or-set_same s.seats r (taker ls m q n) 0 (omega (arith, seats-length ls m q n))))
      (λ (ne : k ≡ r → ⊥).
      let before = placed-in n k h (sym (get_or-set_other s.seated r k true false ne) ∙ full) in
      (before.0, omega (arith, before.1), before.2, get_or-set_other s.seats r k (taker ls m q n) 0 ne ∙ before.3))
      (cases_eq k r)

  pub all_placed : AllPlaced ls m q (seats_for ls m q)
  all_placed k h =
      let none = none_left (rounds ls m q (length ls)).seated (omega (arith, left-rounds (length ls) (omega arith))) k (omega (arith, seated-length ls m q (length ls))) in
      let found = placed-in (length ls) k h none in
      record { round = found.0; early = found.1; turn = found.2; seat = found.3 }
