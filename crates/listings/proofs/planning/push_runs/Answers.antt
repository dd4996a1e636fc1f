use Rattle.tables.specs.Rowed.{row_of}
use Rattle.plans.specs.Plans.{planned}
use Rattle.writing.proofs.Turns.{turn_more}
use Rattle.listings.specs.Listings.{run_text}
use Rattle.listings.proofs.planning.push_runs.Goals as goal

pub loop-rank-preserved : goal.loop-rank-preserved
loop-rank-preserved c =
    turn_more (run_text (planned c.args.plan.now).seats.tasks (planned c.args.plan.now).bounds) row_of _ _ _ _ _ _
    c.loop-rank-test.true c.task-item.is c.loop-rank.invariant c.in_ok-push_run.ensures
