-- The greatest of what passes, in a range.
--
--   greatest-range  the greatest value over those of the first n numbers that pass a test, where another counts as 0
--   best-or-zero    the greatest of a list, or 0 if there is none, is the greatest of 0 and the list
use Rattle.std.proofs.Common.{◌≡◌, ℕ, None, Some, Option, unwrap_or, option_map, zero, suc, ◌+◌, max, Bool, true, false, cond, List, [], ◌∷◌, ◌++◌, map, fold, refl, sym, ap, ◌∙◌, add-one, zero-add, arith}
use Rattle.std.proofs.lemmas.List.{map-id}
use Rattle.std.proofs.lemmas.Iterator.Adapters.{option_map_id}
use Rattle.std.proofs.lemmas.List.FromFn.{map-range_with_len_more}
use Rattle.std.proofs.lemmas.List.Sums.{fold-append}
use Rattle.std.specs.List.{filter, range_with_len, reduce}
use Rattle.analysis.specs.Blocking.{greatest}

range-more : (n : ℕ) → range_with_len 0 (suc n) ≡ range_with_len 0 n ++ n ∷ []
range-more n =
    let e : range_with_len 0 (n + 1) ≡ range_with_len 0 n ++ n ∷ [] =
    sym (map-id (range_with_len 0 (n + 1))) ∙ map-range_with_len_more (λ (x : ℕ). x) 0 n n (zero-add n)
    ∙ ap (λ (xs : List ℕ). xs ++ n ∷ []) (map-id (range_with_len 0 n))
    in
    rw add-one at e

greatest-fold : (f : ℕ → ℕ) (n : ℕ) → fold (λ a x. max a (f x)) 0 (range_with_len 0 n) ≡ greatest f n
greatest-fold f zero = refl
greatest-fold f (suc n) =
    ap (fold (λ a x. max a (f x)) 0) (range-more n) ∙ fold-append (λ a x. max a (f x)) 0 (range_with_len 0 n) (n ∷ [])
    ∙ ap (λ (m : ℕ). max m (f n)) (greatest-fold f n)

module _ (p : ℕ → Bool) (h : ℕ → ℕ) where
  abbrev counted : ℕ → ℕ → ℕ
  counted a x = max a (cond (p x) (h x) 0)

  one-more : (a x : ℕ) (xs : List ℕ) → ((c : ℕ) → fold max c (map h (filter p xs)) ≡ fold counted c xs)
      → (b : Bool) → fold max a (map h (cond b (x ∷ filter p xs) (filter p xs))) ≡ fold counted (max a (cond b (h x) 0)) xs
  one-more a x xs rest true = rest (max a (h x))
  one-more a x xs rest false = let e : a ≡ max a 0 = omega arith in rest a ∙ ap (λ (c : ℕ). fold counted c xs) e

  fold-filtered : (a : ℕ) (xs : List ℕ) → fold max a (map h (filter p xs)) ≡ fold counted a xs
  fold-filtered a [] = refl
  fold-filtered a (x ∷ xs) = one-more a x xs (λ c. fold-filtered c xs) (p x)

  pub greatest-range : (n : ℕ) → fold max 0 (map h (filter p (range_with_len 0 n))) ≡ greatest (λ j. cond (p j) (h j) 0) n
  greatest-range n = fold-filtered 0 (range_with_len 0 n) ∙ greatest-fold (λ j. cond (p j) (h j) 0) n

greatest-of : (best : Option ℕ) (xs : List ℕ) → best ≡ reduce max xs → unwrap_or best 0 ≡ fold max 0 xs
greatest-of best [] e = ap (λ (o : Option ℕ). unwrap_or o 0) e
greatest-of best (x ∷ xs) e =
    let first : x ≡ max 0 x = omega arith in
    ap (λ (o : Option ℕ). unwrap_or o 0) e ∙ ap (λ (n : ℕ). fold max n xs) first

pub best-or-zero : (best : Option ℕ) (xs : List ℕ) → option_map (λ (x : ℕ). x) best ≡ reduce max xs → unwrap_or best 0 ≡ fold max 0 xs
best-or-zero best xs e = greatest-of best xs (sym (option_map_id best) ∙ e)
