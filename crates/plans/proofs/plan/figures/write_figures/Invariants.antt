use Rattle.std.proofs.Common.{◌≡◌}
use Rattle.weights.specs.Weights.{bounds_of}
use Rattle.plans.proofs.Writes.{sofar}
use Rattle.plans.proofs.plan.figures.write_figures.Given as goal

abbrev pub invariant-loop-i : goal.invariant-loop-i
invariant-loop-i l = l.row ≡ sofar (bounds_of l.weights) l.initial.row l.i
