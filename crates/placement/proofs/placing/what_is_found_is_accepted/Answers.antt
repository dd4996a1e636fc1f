use Rattle.tables.specs.Listed.{listed}
use Rattle.attempts.proofs.Accepted.{what-is-found-is-accepted}
use Rattle.placement.proofs.placing.what_is_found_is_accepted.Goals as goal

pub returns : goal.returns
returns g c = what-is-found-is-accepted (g.D.Holding.may c.args.discipline.now) c.args.processors (listed c.args.table.now)
