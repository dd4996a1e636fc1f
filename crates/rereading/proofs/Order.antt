-- What a sound table says of a row in its midst: it comes last among the rows before it, and its resource has its place.
use Rattle.std.proofs.Common.{◌≡◌, ℕ, zero, suc, ◌+◌, ◌<◌, true, false, not, leb, List, [], ◌∷◌, ◌++◌, length, get_or, Some, refl, ap, ◌∙◌, arith}
use Rattle.std.specs.List.{AllByRecursion as All}
use Rattle.std.specs.Str.{bytes_eq}
use Rattle.std.proofs.lemmas.Slice.Eq.{bytes_eq-Decides}
use Rattle.std.proofs.lemmas.Bool.{and_parts, or_parts, or_from, not-true, cond-true, cond-false}
use Rattle.tables.specs.Rows.{Row, row_names, has, place_from, place_of, placed, distinct, leads, rising, inside, known}
use Rattle.tables.proofs.Soundness.{same-swapped}

-- a name that is not there differs from each that is
absent-at : (n : List ℕ) (ms : List (List ℕ)) (i : ℕ) → has n ms ≡ false → i < length ms → bytes_eq (get_or ms i []) n ≡ false
absent-at n [] i h l = absurd (omega arith)
absent-at n (m ∷ ms) zero h l = (or_parts (bytes_eq m n) (has n ms) h).0
absent-at n (m ∷ ms) (suc i) h l = absent-at n ms i (or_parts (bytes_eq m n) (has n ms) h).1 (omega arith)

-- where the first of distinct names has place j, the one that is i further has place j + i
place-from : (j i : ℕ) (ns : List (List ℕ)) → distinct ns ≡ true → i < length ns → place_from j (get_or ns i []) ns ≡ Some (j + i)
place-from j i [] d l = absurd (omega arith)
place-from j zero (n ∷ ns) d l =
    let e : j ≡ j + 0 = omega arith in
    cond-true (bytes_eq n n) _ _ ((bytes_eq-Decides n n).1 refl) ∙ ap Some e
place-from j (suc i) (n ∷ ns) d l =
    let p = and_parts (not (has n ns)) (distinct ns) d in
    let less : i < length ns = omega arith in
    let e : j + 1 + i ≡ j + suc i = omega arith in
    cond-false (bytes_eq n (get_or ns i [])) _ _ (same-swapped (get_or ns i []) n (absent-at n ns i (not-true _ p.0) less))
    ∙ place-from (j + 1) i ns p.1 less
    ∙ ap Some e

-- among distinct names each has its own place
pub place-back : (i : ℕ) (ns : List (List ℕ)) → distinct ns ≡ true → i < length ns → place_of (get_or ns i []) ns ≡ Some i
place-back i ns d l = let e : 0 + i ≡ i = omega arith in place-from 0 i ns d l ∙ ap Some e

-- what holds of each holds of one in their midst
pub all-amid : {X : Type 0} (P : X → Type 0) (xs : List X) (y : X) (ys : List X) → All P (xs ++ y ∷ ys) → P y
all-amid P [] y ys a = a.0
all-amid P (x ∷ xs) y ys a = all-amid P xs y ys a.1

-- a row in the midst of others
module _ (r : Row) (later : List Row) where
  absent-amid : (n : List ℕ) (xs : List Row) → has n (row_names (xs ++ r ∷ later)) ≡ false → bytes_eq r.name n ≡ false
  absent-amid n [] h = (or_parts (bytes_eq r.name n) (has n (row_names later)) h).0
  absent-amid n (x ∷ xs) h = absent-amid n xs (or_parts (bytes_eq x.name n) (has n (row_names (xs ++ r ∷ later))) h).1

  -- none before it has its name
  pub new-amid : (xs : List Row) → distinct (row_names (xs ++ r ∷ later)) ≡ true → has r.name (row_names xs) ≡ false
  new-amid [] d = refl
  new-amid (x ∷ xs) d =
      let p = and_parts (not (has x.name (row_names (xs ++ r ∷ later)))) (distinct (row_names (xs ++ r ∷ later))) d in
      or_from (bytes_eq x.name r.name) _ (same-swapped r.name x.name (absent-amid x.name xs (not-true _ p.0))) (new-amid xs p.1)

  leads-amid : (p : ℕ) (xs : List Row) → leads p (xs ++ r ∷ later) ≡ true → leb p r.period ≡ true
  leads-amid p [] h = (and_parts (leb p r.period) (leads p later) h).0
  leads-amid p (x ∷ xs) h = leads-amid p xs (and_parts (leb p x.period) (leads p (xs ++ r ∷ later)) h).1

  -- its place is after those before it
  pub placed-amid : (xs : List Row) → rising (xs ++ r ∷ later) ≡ true → placed r xs ≡ xs ++ r ∷ []
  placed-amid [] h = refl
  placed-amid (x ∷ xs) h =
      let p = and_parts (leads x.period (xs ++ r ∷ later)) (rising (xs ++ r ∷ later)) h in
      cond-true (leb x.period r.period) _ _ (leads-amid x.period xs p.0) ∙ ap (λ l. x ∷ l) (placed-amid xs p.1)

  -- its resource is known
  pub known-amid : (n : ℕ) (xs : List Row) → known n (xs ++ r ∷ later) ≡ true → inside n r.resource ≡ true
  known-amid n [] h = (and_parts (inside n r.resource) (known n later) h).0
  known-amid n (x ∷ xs) h = known-amid n xs (and_parts (inside n x.resource) (known n (xs ++ r ∷ later)) h).1
