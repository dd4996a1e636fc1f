-- What a plan's invariant says of one task.
--
--   keeps-at      its bounds fit
--   total-within  so their sum is at most its deadline
--   totals-short  and that is at most the longest time that a figure writes
use Rattle.std.proofs.Common.{◌≡◌, ℕ, zero, suc, ◌<◌, ◌≤◌, Bool, true, leb, List, [], ◌∷◌, length, get_or, sym, ap, ◌∙◌, ⊎_elim, arith}
use Rattle.std.proofs.lemmas.Bool.{and_parts, cases_eq, leb-true}
use Rattle.std.proofs.lemmas.List.{get_or-map}
use Rattle.std.specs.List.{All}
use Rattle.tables.specs.declared.task.Task.{Task}
use Rattle.tables.specs.Rowed.{rows}
use Rattle.tables.specs.Rows.{Row}
use Rattle.analysis.specs.declared.part.Bounds.{Bounds}
use Rattle.analysis.specs.Judging.{fits}
use Rattle.analysis.specs.Parts.{deadline, row_at, total}
use Rattle.analysis.specs.Seats.{Seats}
use Rattle.analysis.specs.Weighing.{all_to, keeps, no_bounds}
use Rattle.weights.specs.declared.weight.Weight.{Weight}
use Rattle.weights.specs.Weights.{bounds_of, terms_of}

-- what holds of all numbers below n holds of each
all_to-at : (f : ℕ → Bool) (n : ℕ) → all_to f n ≡ true → (k : ℕ) → k < n → f k ≡ true
all_to-at f zero all k h = absurd (omega arith)
all_to-at f (suc n) all k h =
    let parts = and_parts (all_to f n) (f n) all in
    ⊎_elim (λ (e : k ≡ n). ap f e ∙ parts.1) (λ (ne : k ≡ n → ⊥). all_to-at f n parts.0 k (omega arith)) (cases_eq k n)

module _ (s : Seats) (rows : List Row) (terms : List ℕ) (bounds : List Bounds) (kept : keeps s rows terms bounds ≡ true) (k : ℕ) (h : k < length rows) where
  pub keeps-at : fits s rows (get_or terms k 0) k (get_or bounds k no_bounds) ≡ true
  keeps-at = all_to-at (λ i. fits s rows (get_or terms i 0) i (get_or bounds i no_bounds)) (length rows) kept k h

  pub total-within : total (get_or bounds k no_bounds) ≤ deadline (row_at rows k)
  total-within = leb-true _ _ (and_parts _ (leb (total (get_or bounds k no_bounds)) (deadline (row_at rows k))) keeps-at).1

-- no deadline is longer than a figure can say
pub deadline-short : (tasks : List Task) (k : ℕ) → deadline (row_at (rows tasks) k) ≤ 10000000
deadline-short [] k = omega arith
deadline-short (x ∷ tasks) zero = x.spaced.1
deadline-short (x ∷ tasks) (suc k) = deadline-short tasks k

-- so the sums of a plan's bounds are short, whichever slice lends its weights
pub totals-short : (s : Seats) (tasks : List Task) (weights lent : List Weight) → keeps s (rows tasks) (terms_of weights) (bounds_of weights) ≡ true
    → length weights ≡ length (rows tasks) → lent ≡ weights → All (λ w. total w.bounds ≤ 10000000) lent
totals-short s tasks weights lent kept long same k d h =
    let inside : k < length weights = omega (arith, ap length same) in
    let its : get_or (bounds_of weights) k no_bounds ≡ (get_or lent k d).bounds =
    get_or-map (λ (w : Weight). w.bounds) weights k d no_bounds inside ∙ ap (λ (ws : List Weight). (get_or ws k d).bounds) (sym same)
    in
    omega (arith, ap total its, total-within s (rows tasks) (terms_of weights) (bounds_of weights) kept k (omega arith), deadline-short tasks k)
