-- Rounded-up quotients, and sums over the first numbers.
use Rattle.std.specs.Prelude.{ℕ, zero, suc, ◌+◌, ◌/◌, ◌%◌, min}

-- a divided by b, rounded up
abbrev pub ceil : ℕ → ℕ → ℕ
ceil a b = a / b + min 1 (a % b)

-- the sum of f over the first n numbers, from 0 on
abbrev pub sum_to : (ℕ → ℕ) → ℕ → ℕ
sum_to f zero = 0
sum_to f (suc n) = sum_to f n + f n
