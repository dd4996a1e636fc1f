-- What is written of a number is a figure, and is read as that number.
use Rattle.std.proofs.Common.{◌≡◌, ℕ, ◌+◌, ◌-◌, ◌*◌, ◌/◌, ◌%◌, ◌^◌, ◌<◌, ◌≤◌, true, false, ◌&&◌, leb, List, [], ◌∷◌, ◌++◌, length, get_or, Some, None, decimal, Option, sym, refl, ap, ◌∙◌, ⊎_elim, arith}
use Rattle.std.proofs.lemmas.Fmt.{decimal_by_steps, decimal_digit, decimal_nonempty, first_decimal, length-decimal-le}
use Rattle.std.proofs.lemmas.Bool.{and_from, cases_Bool, cases_eq, cond-true, cond-false, le-leb, or_left, or_right, not_from_false, ne_eqb, eq-eqb}
use Rattle.fields.specs.Fields.{all_visible, filled}
use Rattle.fields.specs.Figures.{is_digit, digits, slim, figure_of, at_most}
use Rattle.rereading.proofs.Visible.{visible-append}

digit-is : (d : ℕ) → d < 10 → is_digit (48 + d) ≡ true
digit-is d h = and_from _ _ (le-leb 48 (48 + d) (omega arith)) (le-leb (48 + d) 57 (omega arith))

digit-visible : (d : ℕ) → d < 10 → all_visible ((48 + d) ∷ []) ≡ true
digit-visible d h = and_from _ _ (and_from _ _ (le-leb 33 (48 + d) (omega arith)) (le-leb (48 + d) 126 (omega arith))) refl

one-digit : (k d : ℕ) → d < 10 → digits k ((48 + d) ∷ []) ≡ Some (k * 10 + d)
one-digit k d h = let e : 48 + d - 48 ≡ d = omega arith in cond-true (is_digit (48 + d)) _ _ (digit-is d h) ∙ ap (λ x. Some (k * 10 + x)) e

-- one digit more at the end
digits_push : (m : ℕ) (ds : List ℕ) (k d : ℕ) → d < 10 → digits m ds ≡ Some k → digits m (ds ++ (48 + d) ∷ []) ≡ Some (k * 10 + d)
digits_push m [] k d h e = let same : m ≡ k = cc in ap (λ x. digits x ((48 + d) ∷ [])) same ∙ one-digit k d h
digits_push m (c ∷ ds) k d h e =
    ⊎_elim
    (λ (t : is_digit c ≡ true).
    cond-true (is_digit c) _ _ t ∙ digits_push (m * 10 + (c - 48)) ds k d h (sym (cond-true (is_digit c) (digits (m * 10 + (c - 48)) ds) None t) ∙ e))
    (λ (f : is_digit c ≡ false).
    let no : ◌≡◌ {A = Option ℕ} None (Some k) = sym (cond-false (is_digit c) (digits (m * 10 + (c - 48)) ds) None f) ∙ e in
    absurd (cc))
    (cases_Bool (is_digit c))

-- the digits of a number write it
digits_decimal : (n : ℕ) → n < 2 ^ 64 → digits 0 (decimal n) ≡ Some n
digits_decimal n h =
    decimal_by_steps (λ m ds. digits 0 ds ≡ Some m)
    (λ m l. let same : 0 * 10 + m ≡ m = omega arith in one-digit 0 m l ∙ ap Some same)
    (λ m ds l e. let whole : m / 10 * 10 + m % 10 ≡ m = omega arith in digits_push 0 ds (m / 10) (m % 10) (omega arith) e ∙ ap Some whole)
    n h

decimal-visible : (n : ℕ) → n < 2 ^ 64 → all_visible (decimal n) ≡ true
decimal-visible n h =
    decimal_by_steps (λ m ds. all_visible ds ≡ true) digit-visible
    (λ m ds l e. visible-append ds ((48 + m % 10) ∷ []) e (digit-visible (m % 10) (omega arith)))
    n h

-- the numbers of a text are at most ten million
module _ (n : ℕ) (h : n ≤ 10000000) where
  low : n < 2 ^ 64
  low = omega arith

  pub decimal-short : length (decimal n) ≤ 8
  decimal-short = length-decimal-le 8 n (omega arith) (omega arith) low

  -- they are 1 to 8, and begin with 0 only where there is no other
  decimal-slim : slim (decimal n) ≡ true
  decimal-slim =
      let some = decimal_nonempty n low in
      and_from _ _ (and_from _ _ (le-leb 1 (length (decimal n)) some) (le-leb (length (decimal n)) 8 decimal-short))
      (⊎_elim
      (λ (z : n ≡ 0). or_left _ _ (eq-eqb _ 1 (ap (λ m. length (decimal m)) z ∙ ap length (decimal_digit 0 (omega arith)))))
      (λ (nz : n ≡ 0 → ⊥).
      let pos : 0 < n = omega arith in
      let first = first_decimal n pos low in
      or_right _ _ (not_from_false _ (ne_eqb (get_or (decimal n) 0 0) 48 (λ e. omega arith))))
      (cases_eq n 0))

  pub decimal-filled : filled (decimal n) ≡ true
  decimal-filled = and_from _ _ (le-leb 1 (length (decimal n)) (decimal_nonempty n low)) (decimal-visible n low)

  -- a number in its range is read as itself
  pub figure-back : (least : ℕ) → least ≤ n → at_most least 10000000 (figure_of (decimal n)) ≡ Some n
  figure-back least l =
      ap (at_most least 10000000) (cond-true (slim (decimal n)) _ _ decimal-slim ∙ digits_decimal n low)
      ∙ cond-true (leb least n && leb n 10000000) _ _ (and_from _ _ (le-leb least n l) (le-leb n 10000000 h))
