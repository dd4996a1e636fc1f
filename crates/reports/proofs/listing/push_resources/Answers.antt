use Rattle.names.specs.Spelled.{spelled}
use Rattle.tables.specs.Listed.{listed}
use Rattle.reports.specs.Reports.{resource_text}
use Rattle.writing.proofs.Turns.{turn_more}
use Rattle.reports.proofs.listing.push_resources.Goals as goal

pub loop-place-preserved : goal.loop-place-preserved
loop-place-preserved c =
    turn_more (resource_text (listed c.args.table.now).tasks) spelled _ _ _ _ _ _
    c.loop-place-test.true c.name-item.is c.loop-place.invariant c.in_ok-push_resource.ensures
