-- The definitions compute: least numbers of ticks, worked out.
use Rattle.std.proofs.Common.{◌≡◌, ◌+◌, List, [], ◌∷◌, Some, None, refl, lit<, lit≤}
use Rattle.bounds.specs.declared.term.Term.{Term}
use Rattle.bounds.specs.Interference.{interference}
use Rattle.bounds.specs.Least.{least}

-- a task that takes 2 of every 5 ticks, and one that takes 3 of every 10
abbrev pub before : List Term
before =
    record { period = 5; length = 2; some = lit< tt; fits = lit≤ tt; counted = lit≤ tt }
    ∷ record { period = 10; length = 3; some = lit< tt; fits = lit≤ tt; counted = lit≤ tt }
    ∷ []

-- within 10 ticks the first takes 2 twice, the second 3 once
pub within-ten : interference before 10 ≡ 7
within-ten = refl

pub three-in-ten : least (λ t. 3 + interference before t) 1000 ≡ Some 10
three-in-ten = refl

pub four-in-eighteen : least (λ t. 4 + interference before t) 1000 ≡ Some 18
four-in-eighteen = refl

-- a need that is greater than every span has no least number
pub never_done : least (λ t. t + 1) 1000 ≡ None
never_done = refl
