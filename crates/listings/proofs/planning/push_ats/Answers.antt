use Rattle.names.specs.Spelled.{spelled}
use Rattle.plans.specs.Plans.{planned}
use Rattle.writing.proofs.Turns.{turn_more}
use Rattle.listings.specs.Listings.{at_text}
use Rattle.listings.proofs.planning.push_ats.Goals as goal

pub loop-place-preserved : goal.loop-place-preserved
loop-place-preserved c =
    turn_more (at_text (planned c.args.plan.now).seats.resources) spelled _ _ _ _ _ _
    c.loop-place-test.true c.name-item.is c.loop-place.invariant c.in_ok-push_at.ensures
