-- What tasks take together, as the sum over their list.
use Rattle.std.proofs.Common.{◌≡◌, ℕ, zero, suc, ◌+◌, ◌*◌, ◌≤◌, List, length, slice_index_or, take, sym, refl, ap, ◌∙◌, add-one, arith}
use Rattle.std.proofs.lemmas.List.{take_all}
use Rattle.std.proofs.lemmas.List.Sums.{sum_by_more, sum_by-le}
use Rattle.std.specs.List.{sum_by}
use Rattle.bounds.specs.declared.term.Term.{Term}
use Rattle.bounds.specs.Interference.{idle, interference, taken}
use Rattle.bounds.specs.Least.{longest}
use Rattle.bounds.specs.Sums.{sum_to}
use Rattle.bounds.specs.Takings.{taken-under}

-- the first n of them
sum_by-to : (f : Term → ℕ) (terms : List Term) (n : ℕ) → n ≤ length terms → sum_by f (take n terms) ≡ sum_to (λ i. f (slice_index_or terms i idle)) n
sum_by-to f terms zero l = refl
sum_by-to f terms (suc n) l =
    let k = sum_by-to f terms n (omega arith) in
    ap (λ m. sum_by f (take m terms)) (sym (add-one n)) ∙ sum_by_more f terms n idle (omega arith) ∙ ap (λ s. s + f (slice_index_or terms n idle)) k

pub interference-sums : (terms : List Term) (t : ℕ) → sum_by (λ x. taken x t) terms ≡ interference terms t
interference-sums terms t =
    ap (sum_by (λ x. taken x t)) (sym (take_all (length terms) terms (omega arith))) ∙ sum_by-to (λ x. taken x t) terms (length terms) (omega arith)

pub interference-under : (terms : List Term) (t : ℕ) → t ≤ longest → sum_by (λ x. taken x t) terms ≤ length terms * (2 * longest)
interference-under terms t h = sum_by-le (λ x. taken x t) (2 * longest) terms (λ k d l. taken-under (slice_index_or terms k d) t h)
