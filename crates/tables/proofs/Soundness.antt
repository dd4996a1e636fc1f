-- What holds of every table is kept by one row more.
use Rattle.std.proofs.Common.{◌≡◌, ℕ, ◌+◌, ◌≤◌, true, false, not, ◌&&◌, leb, List, [], ◌∷◌, ◌++◌, length, Some, None, Option, sym, refl, ap, ◌∙◌, arith}
use Rattle.std.specs.Str.{bytes_eq}
use Rattle.std.proofs.lemmas.Slice.Eq.{bytes_eq-Decides}
use Rattle.std.proofs.lemmas.List.{length-append}
use Rattle.std.proofs.lemmas.Bool.{and_parts, and_from, or_parts, or_from, not-true, not_from_false, cond_both, both_ways, leb-true, leb-false, le-leb, lt-ltb, ltb-true}
use Rattle.tables.specs.Rows.{Row, row_names, has, placed, distinct, leads, rising, inside, known, sound}
use Rattle.tables.proofs.Places.{different}

pub same-swapped : (a b : List ℕ) → bytes_eq a b ≡ false → bytes_eq b a ≡ false
same-swapped a b f = different b a (λ e. both_ways (bytes_eq a b) f ((bytes_eq-Decides a b).1 (sym e)))

-- one name more at the end
has_push : (n m : List ℕ) (ms : List (List ℕ)) → has n ms ≡ false → bytes_eq m n ≡ false → has n (ms ++ m ∷ []) ≡ false
has_push n m [] h s = or_from (bytes_eq m n) false s refl
has_push n m (x ∷ ms) h s = let p = or_parts (bytes_eq x n) (has n ms) h in or_from (bytes_eq x n) _ p.0 (has_push n m ms p.1 s)

distinct_push : (n : List ℕ) (ns : List (List ℕ)) → distinct ns ≡ true → has n ns ≡ false → distinct (ns ++ n ∷ []) ≡ true
distinct_push n [] d h = refl
distinct_push n (m ∷ ms) d h =
    let p = and_parts (not (has m ms)) (distinct ms) d in
    let q = or_parts (bytes_eq m n) (has n ms) h in
    and_from _ _ (not_from_false _ (has_push m n ms (not-true _ p.0) (same-swapped m n q.0))) (distinct_push n ms p.1 q.1)

-- one task more in its place
has-placed : (n : List ℕ) (r : Row) (xs : List Row) → has n (row_names xs) ≡ false → bytes_eq r.name n ≡ false → has n (row_names (placed r xs)) ≡ false
has-placed n r [] h s = or_from (bytes_eq r.name n) false s refl
has-placed n r (x ∷ xs) h s =
    let p = or_parts (bytes_eq x.name n) (has n (row_names xs)) h in
    cond_both (leb x.period r.period) _ _ (λ l. has n (row_names l) ≡ false)
    (λ _. or_from (bytes_eq x.name n) _ p.0 (has-placed n r xs p.1 s))
    (λ _. or_from (bytes_eq r.name n) _ s h)

distinct-placed : (r : Row) (xs : List Row) → distinct (row_names xs) ≡ true → has r.name (row_names xs) ≡ false → distinct (row_names (placed r xs)) ≡ true
distinct-placed r [] d h = refl
distinct-placed r (x ∷ xs) d h =
    let p = and_parts (not (has x.name (row_names xs))) (distinct (row_names xs)) d in
    let q = or_parts (bytes_eq x.name r.name) (has r.name (row_names xs)) h in
    cond_both (leb x.period r.period) _ _ (λ l. distinct (row_names l) ≡ true)
    (λ _. and_from _ _ (not_from_false _ (has-placed x.name r xs (not-true _ p.0) (same-swapped x.name r.name q.0))) (distinct-placed r xs p.1 q.1))
    (λ _. and_from (not (has r.name (row_names (x ∷ xs)))) _ (not_from_false _ h) d)

leads-weaker : (p q : ℕ) (xs : List Row) → p ≤ q → leads q xs ≡ true → leads p xs ≡ true
leads-weaker p q [] h l = refl
leads-weaker p q (x ∷ xs) h l =
    let a = and_parts (leb q x.period) (leads q xs) l in
    and_from _ _ (le-leb p x.period (omega (arith, leb-true q x.period a.0))) (leads-weaker p q xs h a.1)

leads-placed : (p : ℕ) (r : Row) (xs : List Row) → p ≤ r.period → leads p xs ≡ true → leads p (placed r xs) ≡ true
leads-placed p r [] h l = and_from _ _ (le-leb p r.period h) refl
leads-placed p r (x ∷ xs) h l =
    let a = and_parts (leb p x.period) (leads p xs) l in
    cond_both (leb x.period r.period) _ _ (λ ys. leads p ys ≡ true)
    (λ _. and_from _ _ a.0 (leads-placed p r xs h a.1))
    (λ _. and_from (leb p r.period) _ (le-leb p r.period h) l)

rising-placed : (r : Row) (xs : List Row) → rising xs ≡ true → rising (placed r xs) ≡ true
rising-placed r [] u = refl
rising-placed r (x ∷ xs) u =
    let a = and_parts (leads x.period xs) (rising xs) u in
    cond_both (leb x.period r.period) _ _ (λ ys. rising ys ≡ true)
    (λ t. and_from _ _ (leads-placed x.period r xs (leb-true x.period r.period t) a.0) (rising-placed r xs a.1))
    (λ f.
    let less = leb-false x.period r.period f in
    and_from (leads r.period (x ∷ xs)) _ (and_from _ _ (le-leb r.period x.period (omega arith)) (leads-weaker r.period x.period xs (omega arith) a.0)) u)

inside-more : (n : ℕ) (g : Option ℕ) → inside n g ≡ true → inside (n + 1) g ≡ true
inside-more n None h = refl
inside-more n (Some i) h = let l = ltb-true i n h in lt-ltb i (n + 1) (omega arith)

known_more : (n : ℕ) (xs : List Row) → known n xs ≡ true → known (n + 1) xs ≡ true
known_more n [] k = refl
known_more n (x ∷ xs) k =
    let a = and_parts (inside n x.resource) (known n xs) k in
    and_from _ _ (inside-more n x.resource a.0) (known_more n xs a.1)

known-placed : (n : ℕ) (r : Row) (xs : List Row) → inside n r.resource ≡ true → known n xs ≡ true → known n (placed r xs) ≡ true
known-placed n r [] i k = and_from _ _ i refl
known-placed n r (x ∷ xs) i k =
    let a = and_parts (inside n x.resource) (known n xs) k in
    cond_both (leb x.period r.period) _ _ (λ ys. known n ys ≡ true)
    (λ _. and_from _ _ a.0 (known-placed n r xs i a.1))
    (λ _. and_from (inside n r.resource) _ i k)

-- what is sound, part by part
pub record Sound (rs : List (List ℕ)) (ts : List Row) : Type 0 where
  pub apart : distinct rs ≡ true
  pub unlike : distinct (row_names ts) ≡ true
  pub rises : rising ts ≡ true
  pub known : known (length rs) ts ≡ true

pub sound-parts : (rs : List (List ℕ)) (ts : List Row) → sound rs ts ≡ true → Sound rs ts
sound-parts rs ts s =
    let a = and_parts (distinct rs) (distinct (row_names ts) && (rising ts && known (length rs) ts)) s in
    let b = and_parts (distinct (row_names ts)) (rising ts && known (length rs) ts) a.1 in
    let c = and_parts (rising ts) (known (length rs) ts) b.1 in
    record { apart = a.0; unlike = b.0; rises = c.0; known = c.1 }

sound-from : (rs : List (List ℕ)) (ts : List Row) → Sound rs ts → sound rs ts ≡ true
sound-from rs ts p = and_from _ _ p.apart (and_from _ _ p.unlike (and_from _ _ p.rises p.known))

module _ (rs : List (List ℕ)) (ts : List Row) (s : sound rs ts ≡ true) where
  parts : Sound rs ts
  parts = sound-parts rs ts s

  pub sound-resource : (n : List ℕ) → has n rs ≡ false → sound (rs ++ n ∷ []) ts ≡ true
  sound-resource n h =
      sound-from (rs ++ n ∷ []) ts
      (record {
        apart = distinct_push n rs parts.apart h;
        unlike = parts.unlike;
        rises = parts.rises;
        known = ap (λ k. known k ts) (length-append rs (n ∷ [])) ∙ known_more (length rs) ts parts.known;
      })

  pub sound-task : (r : Row) → has r.name (row_names ts) ≡ false → inside (length rs) r.resource ≡ true → sound rs (placed r ts) ≡ true
  sound-task r h i =
      sound-from rs (placed r ts)
      (record {
        apart = parts.apart;
        unlike = distinct-placed r ts parts.unlike h;
        rises = rising-placed r ts parts.rises;
        known = known-placed (length rs) r ts i parts.known;
      })
