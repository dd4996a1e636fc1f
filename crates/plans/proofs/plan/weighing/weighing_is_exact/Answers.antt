use Rattle.exactness.proofs.Exact.{weighing-is-exact}
use Rattle.plans.proofs.plan.weighing.weighing_is_exact.Goals as goal

pub returns : goal.returns
returns g c = weighing-is-exact _ _ _ _ _
