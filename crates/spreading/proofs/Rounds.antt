-- What every round keeps.
use Rattle.std.proofs.Common.{◌≡◌, ℕ, zero, suc, ◌+◌, ◌-◌, ◌*◌, ◌<◌, ◌≤◌, List, [], ◌∷◌, length, map, get_or, set, replicate, refl, ap, ◌∙◌, add-one, arith}
use Rattle.std.proofs.lemmas.List.{length-replicate, length-set}
use Rattle.spreading.specs.Charted.{Ready}
use Rattle.spreading.specs.Spreading.{heaviest, lightest, rounds, seat_next}

-- what holds of an element before a write, and of what is written, holds of it after
pub at_set : {X : Type 0} (P : X → Type 0) (xs : List X) (i j : ℕ) (y d : X) → P y → P (get_or xs j d) → P (get_or (set xs i y) j d)
at_set P [] i j y d new old = old
at_set P (x ∷ xs) zero zero y d new old = new
at_set P (x ∷ xs) zero (suc j) y d new old = old
at_set P (x ∷ xs) (suc i) zero y d new old = old
at_set P (x ∷ xs) (suc i) (suc j) y d new old = at_set P xs i j y d new old

pub map-replicate : {X Y : Type 0} (f : X → Y) (n : ℕ) (x : X) → map f (replicate n x) ≡ replicate n (f x)
map-replicate f zero x = refl
map-replicate f (suc n) x = ap (λ xs. f x ∷ xs) (map-replicate f n x)

replicated : (q p : ℕ) → ◌≡◌ {A = ℕ} (get_or (replicate q 0) p 0) 0
replicated zero p = refl
replicated (suc q) zero = refl
replicated (suc q) (suc p) = replicated q p

module _ (ls : List ℕ) (m q : ℕ) where
  pub rounds-more : (n : ℕ) → rounds ls m q (n + 1) ≡ seat_next ls (m - q) (rounds ls m q n)
  rounds-more n = rw add-one

  pub seats-length : (n : ℕ) → length (rounds ls m q n).seats ≡ length ls
  seats-length zero = length-replicate (length ls) (m - q)
  seats-length (suc n) = length-set (rounds ls m q n).seats _ _ ∙ seats-length n

  pub seated-length : (n : ℕ) → length (rounds ls m q n).seated ≡ length ls
  seated-length zero = length-replicate (length ls) _
  seated-length (suc n) = length-set (rounds ls m q n).seated _ _ ∙ seated-length n

  pub sums-length : (n : ℕ) → length (rounds ls m q n).sums ≡ q
  sums-length zero = length-replicate q 0
  sums-length (suc n) = length-set (rounds ls m q n).sums _ _ ∙ sums-length n

  pub sums-small : (most : ℕ) → ((i : ℕ) → get_or ls i 0 ≤ most) → (n p : ℕ) → get_or (rounds ls m q n).sums p 0 ≤ n * most
  sums-small most small zero p = rw replicated (omega arith)
  sums-small most small (suc n) p =
      let s = rounds ls m q n in
      at_set (λ x. x ≤ suc n * most) s.sums (lightest s.sums) p _ 0
      (omega (arith, sums-small most small n (lightest s.sums), small (heaviest ls s.seated)))
      (omega (arith, sums-small most small n p))

  pub ready : (n : ℕ) → n < length ls → length ls < 18446744073709551616 → m < 256 → q < 256 → ((i : ℕ) → get_or ls i 0 < 18446744073709551616) → Ready ls (m - q) (rounds ls m q n)
  ready n left long ms qs small =
      record {
        some = omega arith;
        seats = seats-length n;
        seated = seated-length n;
        numbers = omega (arith, sums-length n);
        small = λ p. omega (arith, sums-small 18446744073709551615 (λ i. omega (arith, small i)) n p);
      }
