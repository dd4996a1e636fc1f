use Rattle.std.proofs.Common.{ℕ, ◌*◌, ◌≤◌, ap, arith}
use Rattle.bounds.specs.Least.{longest}
use Rattle.bounds.specs.Takings.{taken-under}
use Rattle.bounds.proofs.term.Term.taken.Goals as goal

under : (c : goal.After-div_ceil) → c.div_ceil.result * c.args.self.now.length ≤ 2 * longest
under c = omega (arith, ap (λ (x : ℕ). x * c.args.self.now.length) c.div_ceil.ensures, taken-under c.args.self.now c.args.t c.requires)

pub overflow_mul-result : goal.overflow_mul-result
overflow_mul-result c = omega (arith, under c)

pub returns-clause-bound : goal.returns-clause-bound
returns-clause-bound c = under c
