use Rattle.std.proofs.Common.{◌≡◌, ◌++◌, take, vec_items}
use Rattle.tables.specs.Rowed.{rows}
use Rattle.plans.specs.Plans.{planned}
use Rattle.writing.specs.Lines.{in_turn}
use Rattle.listings.specs.Listings.{run_text}
use Rattle.listings.proofs.planning.push_runs.Given as goal

-- the lines of the tasks so far are written
abbrev pub invariant-loop-rank : goal.invariant-loop-rank
invariant-loop-rank l =
    vec_items l.out
    ≡ vec_items l.initial.out ++ in_turn (run_text (planned l.plan).seats.tasks (planned l.plan).bounds) 0 (take l.rank (rows l.task-items))
