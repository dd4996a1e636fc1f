use Rattle.std.proofs.Common.{◌+◌, ◌-◌, ◌≤◌}
use Rattle.bounds.proofs.Leasts.{Below}
use Rattle.bounds.proofs.search.climb.Given as goal

-- nothing below t meets the need
abbrev pub invariant-loop-t : goal.invariant-loop-t
invariant-loop-t g l = (1 ≤ l.t) × Below (g.N.Need.need l.part) l.t

abbrev pub decreases-loop-t : goal.decreases-loop-t
decreases-loop-t g l = l.limit + 1 - l.t
