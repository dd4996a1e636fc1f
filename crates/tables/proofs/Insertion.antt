-- Where a task is inserted.
use Rattle.std.proofs.Common.{◌≡◌, ℕ, zero, suc, ◌+◌, ◌<◌, ◌≤◌, true, false, cond, leb, List, [], ◌∷◌, length, get_or, drop, sym, refl, ap, add-one, arith}
use Rattle.std.specs.List.{insert}
use Rattle.std.specs.List.Sorted.{IsNonDecreasingBy, IsPartitionPoint}
use Rattle.std.proofs.lemmas.Bool.{and_parts, cond-true, cond-false, leb-true}
use Rattle.tables.specs.declared.task.Task.{Task}
use Rattle.tables.specs.Rows.{Row, leads, placed, rising, spot}
use Rattle.tables.specs.Rowed.{row_of, rows}
use Rattle.tables.proofs.Places.{drop-first}

pub spot-within : (p : ℕ) (xs : List Row) → spot p xs ≤ length xs
spot-within p [] = omega arith
spot-within p (x ∷ xs) = let h = spot-within p xs in grind arith

-- the rows from one task on
pub row_first : (all : List Task) (i : ℕ) (x : Task) → i < length all → x ≡ get_or all i x → drop i (rows all) ≡ row_of x ∷ drop (i + 1) (rows all)
row_first all i x h is = drop-first row_of all i x h is

-- periods rise along a table's tasks
leads-at : (p : ℕ) (ts : List Task) (k : ℕ) (d : Task) → leads p (rows ts) ≡ true → k < length ts → p ≤ (get_or ts k d).period
leads-at p [] k d l h = absurd (omega arith)
leads-at p (t ∷ ts) zero d l h = leb-true p t.period (and_parts (leb p t.period) (leads p (rows ts)) l).0
leads-at p (t ∷ ts) (suc k) d l h = leads-at p ts k d (and_parts (leb p t.period) (leads p (rows ts)) l).1 (omega arith)

pub rising-periods : (ts : List Task) → rising (rows ts) ≡ true → IsNonDecreasingBy (λ (t : Task). t.period) ts
rising-periods [] r i j d le h = absurd (omega arith)
rising-periods (t ∷ ts) r zero zero d le h = omega arith
rising-periods (t ∷ ts) r zero (suc j) d le h = leads-at t.period ts j d (and_parts (leads t.period (rows ts)) (rising (rows ts)) r).0 (omega arith)
rising-periods (t ∷ ts) r (suc i) zero d le h = absurd (omega arith)
rising-periods (t ∷ ts) r (suc i) (suc j) d le h = rising-periods ts (and_parts (leads t.period (rows ts)) (rising (rows ts)) r).1 i j d (omega arith) (omega arith)

-- the point at which they pass p is where a task of that period goes
pub spot-point : (p : ℕ) (ts : List Task) (i : ℕ) → i ≤ length ts → IsPartitionPoint (λ (t : Task). leb t.period p ≡ true) (λ (t : Task). leb t.period p ≡ false) ts i → i ≡ spot p (rows ts)
spot-point p [] i h point = omega arith
spot-point p (t ∷ ts) zero h point = sym (cond-false (leb t.period p) _ _ (point.1 0 t (omega arith) (omega arith)))
spot-point p (t ∷ ts) (suc i) h point =
    let rest = spot-point p ts i (omega arith) (λ k d a b. point.0 (suc k) d (omega arith) (omega arith), λ k d a b. point.1 (suc k) d (omega arith) (omega arith)) in
    let here = cond-true (leb t.period p) (spot p (rows ts) + 1) 0 (point.0 0 t (omega arith) (omega arith)) in
    omega arith

pub rows-inserted : (t : Task) (ts : List Task) → rows (insert ts (spot t.period (rows ts)) t) ≡ placed (row_of t) (rows ts)
rows-inserted t [] = refl
rows-inserted t (x ∷ ts) =
    elim (leb x.period t.period) as (λ b. rows (insert (x ∷ ts) (cond b (spot t.period (rows ts) + 1) 0) t) ≡ cond b (row_of x ∷ placed (row_of t) (rows ts)) (row_of t ∷ row_of x ∷ rows ts))
    [ true ↦ simp add-one (ap (λ l. row_of x ∷ l) (rows-inserted t ts)) | false ↦ refl ]
