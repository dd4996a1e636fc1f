use Rattle.std.proofs.Common.{◌≡◌, ◌++◌, take, vec_items}
use Rattle.tables.specs.Rowed.{called}
use Rattle.plans.specs.Plans.{planned}
use Rattle.writing.specs.Lines.{in_turn}
use Rattle.listings.specs.Listings.{at_text}
use Rattle.listings.proofs.planning.push_ats.Given as goal

-- the lines of the resources so far are written
abbrev pub invariant-loop-place : goal.invariant-loop-place
invariant-loop-place l =
    vec_items l.out
    ≡ vec_items l.initial.out ++ in_turn (at_text (planned l.plan).seats.resources) 0 (take l.place (called l.name-items))
