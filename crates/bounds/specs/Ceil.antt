-- Rounded-up quotients: the least number of periods that cover a span, and never more than a period too long.
use Rattle.std.proofs.Common.{⊎_elim, div-add-mod', add-mul, mod-lt, mul-le-mul_right, mul-le-mul_left, one-mul, arith}
use Rattle.std.specs.Prelude.{ℕ, ◌+◌, ◌*◌, ◌/◌, ◌%◌, ◌<◌, ◌≤◌}
use Rattle.std.proofs.lemmas.Bool.{cases_lt}
use Rattle.bounds.specs.Sums.{ceil}

ceil-covers : (t b : ℕ) → 0 < b → t ≤ ceil t b * b
ceil-covers t b pos =
    let e = div-add-mod' t b in
    let r = mod-lt t {m = b} pos in
    ⊎_elim
    (λ (z : t % b < 1). let h : t / b ≤ ceil t b = omega arith in omega (arith, mul-le-mul_right b h))
    (λ (z : 1 ≤ t % b). let h : t / b + 1 ≤ ceil t b = omega arith in
    omega (arith, mul-le-mul_right b h, add-mul (t / b) 1 b, one-mul b))
    (cases_lt (t % b) 1)

ceil-least : (t b n : ℕ) → 0 < b → t ≤ n * b → ceil t b ≤ n
ceil-least t b n pos h =
    let e = div-add-mod' t b in
    ⊎_elim
    (λ (l : n < ceil t b). ⊎_elim
    (λ (z : t % b < 1). let g : n + 1 ≤ t / b = omega arith in
    omega (arith, mul-le-mul_right b g, add-mul n 1 b, one-mul b))
    (λ (z : 1 ≤ t % b). let g : n ≤ t / b = omega arith in omega (arith, mul-le-mul_right b g))
    (cases_lt (t % b) 1))
    (λ l. l)
    (cases_lt n (ceil t b))

pub ceil-mono : (b s t : ℕ) → 0 < b → s ≤ t → ceil s b ≤ ceil t b
ceil-mono b s t pos h = ceil-least s b (ceil t b) pos (omega (arith, ceil-covers t b pos))

ceil-under : (t b : ℕ) → ceil t b * b ≤ t + b
ceil-under t b =
    let h : ceil t b ≤ t / b + 1 = omega arith in
    omega (arith, mul-le-mul_right b h, add-mul (t / b) 1 b, one-mul b, div-add-mod' t b)

-- a length of at most b, once for each period that begins in t ticks, is at most t and one period more
pub term-under : (t b c : ℕ) → c ≤ b → ceil t b * c ≤ t + b
term-under t b c h = omega (arith, mul-le-mul_left (ceil t b) h, ceil-under t b)
