-- The digits of a number, one after another.
use Rattle.std.proofs.Common.{◌≡◌, ℕ, ◌+◌, ◌-◌, ◌*◌, ◌^◌, ◌<◌, ◌≤◌, true, false, List, [], ◌∷◌, ◌++◌, map, length, get_or, drop, Some, None, sym, ap, ◌∙◌, subst, arith, pow-add, Bor}
use native.Mathlib.Nat.{pow-le-pow_right}
use Rattle.std.specs.List.{FoldsTo}
use Rattle.std.proofs.lemmas.List.{at_drop_more, at_drop_all}
use Rattle.std.proofs.lemmas.Bool.{cond-true, cond-false}
use Rattle.std.proofs.lemmas.Bool.Decides.{nat_tests}
use Rattle.fields.specs.Figures.{digits, is_digit}

pub digits-none : (n : ℕ) (s : List ℕ) (i : ℕ) → i < length s → is_digit (get_or s i 0) ≡ false → digits n (drop i s) ≡ None
digits-none n s i h f = at_drop_more (digits n) s i 0 h ∙ cond-false (is_digit (get_or s i 0)) _ _ f

pub digits-all : (n : ℕ) (s : List ℕ) (i : ℕ) → length s ≤ i → digits n (drop i s) ≡ Some n
digits-all n s i h = at_drop_all (digits n) s i h

-- i digits write a number below 10 ^ i
pub below_more : (n d i : ℕ) → n < 10 ^ i → d ≤ 9 → n * 10 + d < 10 ^ (i + 1)
below_more n d i h l = omega (arith, pow-add 10 i 1)

pub below-some : (n i : ℕ) → i < 8 → n < 10 ^ i → n < 10000000
below-some n i l h = omega (arith, pow-le-pow_right {n = 10} (omega arith) {i = i} {j = 7} (omega arith))

-- a fold whose turns take one digit more each
module _ {F : Type 0} (R : F × ℕ → Bor ℕ → F × ℕ → Type 0) (turn : (p : F × ℕ) (x : Bor ℕ) (q : F × ℕ) → R p x q → (is_digit x.now ≡ true) × (q.1 ≡ p.1 * 10 + (x.now - 48))) where
  -- after i digits the number is below 10 ^ i
  pub folded-below : (xs : List (Bor ℕ)) (p q : F × ℕ) (i : ℕ) → FoldsTo {P = F × ℕ} R p xs q → p.1 < 10 ^ i → q.1 < 10 ^ (i + length xs)
  folded-below [] p q i f l =
      let e : i ≡ i + length {A = Bor ℕ} [] = omega arith in
      subst (λ n. q.1 < 10 ^ n) e (subst (λ (n : F × ℕ). n.1 < 10 ^ i) f l)
  folded-below (x ∷ xs) p q i f l =
      let t = turn p x f.0 f.1 in
      let more : f.0.1 < 10 ^ (i + 1) = subst (λ n. n < 10 ^ (i + 1)) (sym t.1) (below_more p.1 (x.now - 48) i l (grind (arith, nat_tests))) in
      let e : i + 1 + length xs ≡ i + length (x ∷ xs) = omega arith in
      subst (λ n. q.1 < 10 ^ n) e (folded-below xs f.0 q (i + 1) f.2 more)

  -- the digits that are left complete the number
  pub folded-digits : (xs : List (Bor ℕ)) (p q : F × ℕ) (rest : List ℕ) → FoldsTo {P = F × ℕ} R p xs q → digits p.1 (map (λ x. x.now) xs ++ rest) ≡ digits q.1 rest
  folded-digits [] p q rest f = ap (λ (n : F × ℕ). digits n.1 rest) f
  folded-digits (x ∷ xs) p q rest f =
      let t = turn p x f.0 f.1 in
      cond-true (is_digit x.now) _ _ t.0 ∙ ap (λ n. digits n (map (λ y. y.now) xs ++ rest)) (sym t.1) ∙ folded-digits xs f.0 q rest f.2
