-- The blocking terms and the bounds of the first n tasks.
--
--   terms_to-length,   terms_to-at    there are n blocking terms, each that of the task at its place
--   outcome            the first n tasks are all judged in time, or the one that is named is the first judged late
--   bounds_to-length,  bounds_to-at  there are n bounds, each what the task at its place is judged to have
--   bounds_to-all      n bounds that the tasks are judged to have are the bounds of the first n tasks
--   weighed-keeps      the bounds of all tasks fit them with the blocking terms
use Rattle.std.proofs.Common.{◌≡◌, ℕ, zero, suc, ◌<◌, ◌≤◌, Bool, true, List, [], ◌∷◌, ◌++◌, length, get_or, take, Ok, Err, Result, sym, refl, ap, ◌∙◌, subst, ⊎_elim, add-one, arith}
use Rattle.std.proofs.lemmas.List.{get_or_append_left, get_or_push, length_push, take_all, take_more}
use Rattle.std.proofs.lemmas.Bool.{and_from, cases_lt}
use Rattle.disciplines.specs.Rules.{Relation}
use Rattle.tables.specs.Rows.{Row}
use Rattle.analysis.specs.declared.lateness.Lateness.{Lateness}
use Rattle.analysis.specs.declared.lateness.WeighFault.{WeighFault}
use Rattle.analysis.specs.declared.lateness.WeighFault.TheVariants.{Box, Seat, Late, Memory}
use Rattle.analysis.specs.declared.part.Bounds.{Bounds}
use Rattle.analysis.specs.Blocking.{blocking}
use Rattle.analysis.specs.Judging.{fits, judged}
use Rattle.analysis.specs.Seats.{Seats}
use Rattle.analysis.specs.Weighing.{all_to, bounds_to, keeps, no_bounds, or_late, terms_to, with_task}
use Rattle.exactness.proofs.Verdicts.{fits-judged}

-- one more than a list of n, at its end
length-one-more : {X : Type 0} (xs : List X) (x : X) (n : ℕ) → length xs ≡ n → length (xs ++ x ∷ []) ≡ suc n
length-one-more xs x n e = omega (arith, length_push xs x)

-- what holds of each element holds with one more at the end that it holds of
at-one-more : {X : Type 0} (P : ℕ → X → Type 0) (xs : List X) (x d : X) (n : ℕ) → length xs ≡ n
    → ((k : ℕ) → k < n → P k (get_or xs k d)) → P n x → (k : ℕ) → k < suc n → P k (get_or (xs ++ x ∷ []) k d)
at-one-more P xs x d n e each last k h =
    ⊎_elim
    (λ (less : k < n). subst (P k) (sym (get_or_append_left xs (x ∷ []) d k (omega arith))) (each k less))
    (λ (most : n ≤ k). let same : n ≡ k = omega arith in
    subst (λ j. P j (get_or (xs ++ x ∷ []) j d)) same (subst (P n) (sym (get_or_push xs x d n e)) last))
    (cases_lt k n)

module _ (may : Relation) (s : Seats) (rows : List Row) where
  pub terms_to-length : (n : ℕ) → length (terms_to may s rows n) ≡ n
  terms_to-length zero = refl
  terms_to-length (suc n) = length-one-more (terms_to may s rows n) (blocking may s rows n) n (terms_to-length n)

  pub terms_to-at : (n k : ℕ) → k < n → get_or (terms_to may s rows n) k 0 ≡ blocking may s rows k
  terms_to-at zero k h = absurd (omega arith)
  terms_to-at (suc n) k h =
      at-one-more (λ j x. x ≡ blocking may s rows j) (terms_to may s rows n) (blocking may s rows n) 0 n (terms_to-length n)
      (terms_to-at n) refl k h

  -- how the task of a rank is judged with its own blocking term
  abbrev judged_at : ℕ → Result Bounds Lateness
  judged_at k = judged s rows (blocking may s rows k) k

  -- the first of n tasks that is judged late, and how
  pub record FirstJudged (n k : ℕ) (lateness : Lateness) : Type 0 where
    pub task : k < n
    pub here : judged_at k ≡ Err lateness
    pub earlier : (j : ℕ) → j < k → (x : Bounds) × (judged_at j ≡ Ok x)

  -- the first n tasks are judged to have these bounds, or one of them is the first judged late; there is no other fault
  abbrev pub Outcome : ℕ → Result (List Bounds) WeighFault → Type 0
  Outcome n (Ok bounds) = (length bounds ≡ n) × ((k : ℕ) → k < n → judged_at k ≡ Ok (get_or bounds k no_bounds))
  Outcome n (Err (Late k lateness)) = FirstJudged n k lateness
  Outcome n (Err Box) = ⊥
  Outcome n (Err Seat) = ⊥
  Outcome n (Err Memory) = ⊥

  with-task : (n : ℕ) (bounds : List Bounds) → Outcome n (Ok bounds) → (r : Result Bounds Lateness) → judged_at n ≡ r
      → Outcome (suc n) (with_task may s rows n bounds r)
  with-task n bounds o (Ok x) e =
      (length-one-more bounds x n o.0, at-one-more (λ k y. judged_at k ≡ Ok y) bounds x no_bounds n o.0 o.1 e)
  with-task n bounds o (Err lateness) e =
      record { task = omega arith; here = e; earlier = λ j h. (get_or bounds j no_bounds, o.1 j h) }

  one_more : (n : ℕ) (r : Result (List Bounds) WeighFault) → Outcome n r → Outcome (suc n) (or_late may s rows n r)
  one_more n (Ok bounds) o = with-task n bounds o (judged_at n) refl
  one_more n (Err (Late k lateness)) o = record { task = omega (arith, o.task); here = o.here; earlier = o.earlier }
  one_more n (Err Box) o = o
  one_more n (Err Seat) o = o
  one_more n (Err Memory) o = o

  pub outcome : (n : ℕ) → Outcome n (bounds_to may s rows n)
  outcome zero = (refl, λ k h. absurd (omega arith))
  outcome (suc n) = one_more n (bounds_to may s rows n) (outcome n)

  pub bounds_to-length : (n : ℕ) (bounds : List Bounds) → bounds_to may s rows n ≡ Ok bounds → length bounds ≡ n
  bounds_to-length n bounds e = let o : Outcome n (Ok bounds) = subst (Outcome n) e (outcome n) in o.0

  pub bounds_to-at : (n : ℕ) (bounds : List Bounds) → bounds_to may s rows n ≡ Ok bounds
      → (k : ℕ) → k < n → judged s rows (blocking may s rows k) k ≡ Ok (get_or bounds k no_bounds)
  bounds_to-at n bounds e = let o : Outcome n (Ok bounds) = subst (Outcome n) e (outcome n) in o.1

  -- where the first n bounds of a list are those of the first n tasks, so are the first n + 1 if the next one is judged so too
  bounds_to-more : (n : ℕ) (bounds : List Bounds) → n < length bounds → bounds_to may s rows n ≡ Ok (take n bounds)
      → judged_at n ≡ Ok (get_or bounds n no_bounds) → bounds_to may s rows (suc n) ≡ Ok (take (suc n) bounds)
  bounds_to-more n bounds h e last =
      ap (or_late may s rows n) e ∙ ap (with_task may s rows n (take n bounds)) last
      ∙ ap Ok (sym (rw add-one at (take_more bounds n no_bounds h)))

  bounds_to-front : (n : ℕ) (bounds : List Bounds) → n ≤ length bounds
      → ((k : ℕ) → k < n → judged_at k ≡ Ok (get_or bounds k no_bounds)) → bounds_to may s rows n ≡ Ok (take n bounds)
  bounds_to-front zero bounds h each = refl
  bounds_to-front (suc n) bounds h each =
      bounds_to-more n bounds (omega arith) (bounds_to-front n bounds (omega arith) (λ k l. each k (omega arith)))
      (each n (omega arith))

  pub bounds_to-all : (n : ℕ) (bounds : List Bounds) → length bounds ≡ n
      → ((k : ℕ) → k < n → judged s rows (blocking may s rows k) k ≡ Ok (get_or bounds k no_bounds))
      → bounds_to may s rows n ≡ Ok bounds
  bounds_to-all n bounds e each = bounds_to-front n bounds (omega arith) each ∙ ap Ok (take_all n bounds (omega arith))

-- what holds of each of the first n numbers holds of all of them
all_to-each : (f : ℕ → Bool) (n : ℕ) → ((k : ℕ) → k < n → f k ≡ true) → all_to f n ≡ true
all_to-each f zero each = refl
all_to-each f (suc n) each = and_from _ _ (all_to-each f n (λ k h. each k (omega arith))) (each n (omega arith))

pub weighed-keeps : (may : Relation) (s : Seats) (rows : List Row) (bounds : List Bounds)
    → bounds_to may s rows (length rows) ≡ Ok bounds → keeps s rows (terms_to may s rows (length rows)) bounds ≡ true
weighed-keeps may s rows bounds e =
    all_to-each (λ k. fits s rows (get_or (terms_to may s rows (length rows)) k 0) k (get_or bounds k no_bounds)) (length rows)
    (λ k h. rw (terms_to-at may s rows (length rows) k h)
    (fits-judged s rows (blocking may s rows k) k (get_or bounds k no_bounds) (bounds_to-at may s rows (length rows) bounds e k h)))
