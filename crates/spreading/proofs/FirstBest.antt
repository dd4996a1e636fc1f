-- Choosing the first best, place by place.
use Rattle.std.proofs.Common.{ℕ, zero, suc, ◌<◌, Bool, arith}
use Rattle.std.proofs.lemmas.Bool.{cond_both}
use Rattle.spreading.specs.Spreading.{first_best}

pub best-within : (beats : ℕ → ℕ → Bool) (n : ℕ) → 0 < n → first_best beats n < n
best-within beats zero some = absurd (omega arith)
best-within beats (suc zero) some = cond_both (beats 0 0) 0 0 (λ b. b < 1) (λ _. omega arith) (λ _. omega arith)
best-within beats (suc (suc n)) some =
    let before = best-within beats (suc n) (omega arith) in
    cond_both (beats (suc n) (first_best beats (suc n))) (suc n) (first_best beats (suc n)) (λ b. b < suc (suc n)) (λ _. omega arith) (λ _. omega arith)
