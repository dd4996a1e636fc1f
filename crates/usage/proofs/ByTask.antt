-- What chains over tasks answer, as the definitions over rows.
use Rattle.std.proofs.Common.{◌≡◌, ℕ, ◌+◌, Bool, true, false, cond, List, [], ◌∷◌, Some, refl, ap, ◌∙◌, arith}
use Rattle.std.specs.List.{count_by, filter, position, position_from, sum_by}
use Rattle.std.proofs.lemmas.Iterator.Adapters.{position_from-zero}
use Rattle.std.proofs.lemmas.List.Sums.{sum_by-cons}
use Rattle.tables.specs.declared.task.Task.{Task}
use Rattle.tables.specs.Rowed.{row_of, rows}
use Rattle.usage.specs.Usage.{ceiling, first_user, load, share, users, uses}

-- a task at the front adds its share, if it is kept
share_kept : (kept : Bool) (task : Task) (all : List Task) → sum_by (λ t. share (row_of t)) (cond kept (task ∷ all) all) ≡ cond kept (share (row_of task)) 0 + sum_by (λ t. share (row_of t)) all
share_kept true task all = sum_by-cons (λ t. share (row_of t)) task all
share_kept false task all = omega arith

module _ (resource : ℕ) where
  abbrev is_user : Task → Bool
  is_user task = uses resource (row_of task)

  first-from : (k : ℕ) (all : List Task) → position_from is_user k all ≡ first_user k resource (rows all)
  first-from k [] = refl
  first-from k (task ∷ all) = ap (cond (is_user task) (Some k)) (first-from (k + 1) all)

  pub first-of : (all : List Task) → position is_user all ≡ ceiling resource (rows all)
  first-of all = position_from-zero is_user all ∙ first-from 0 all

  pub count-of : (all : List Task) → count_by is_user all ≡ users resource (rows all)
  count-of [] = refl
  count-of (task ∷ all) = omega (arith, sum_by-cons (λ t. cond (is_user t) 1 0) task all, count-of all)

  pub sum-of : (all : List Task) → sum_by (λ t. share (row_of t)) (filter is_user all) ≡ load resource (rows all)
  sum-of [] = refl
  sum-of (task ∷ all) = share_kept (is_user task) task (filter is_user all) ∙ ap (λ n. cond (is_user task) (share (row_of task)) 0 + n) (sum-of all)
