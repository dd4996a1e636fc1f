use Rattle.std.proofs.Common.{vec_items}
use Rattle.analysis.specs.Seated.{rows_in, seats_in}
use Rattle.weights.proofs.Weighs.{Weighed}
use Rattle.weights.proofs.weighing.weigh_tasks.Given as goal

-- the tasks so far are weighed
abbrev pub invariant-loop-rank : goal.invariant-loop-rank
invariant-loop-rank g l = Weighed (g.D.Holding.may l.discipline) (seats_in l.seated) (rows_in l.seated) l.rank (vec_items l.weights)
