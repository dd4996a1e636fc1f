use Rattle.std.proofs.Common.{◌≡◌, ◌++◌, take, vec_items}
use Rattle.tables.specs.Listed.{listed}
use Rattle.tables.specs.Rowed.{called}
use Rattle.writing.specs.Lines.{in_turn}
use Rattle.reports.specs.Reports.{resource_text}
use Rattle.reports.proofs.listing.push_resources.Given as goal

-- the lines of the resources so far are written
abbrev pub invariant-loop-place : goal.invariant-loop-place
invariant-loop-place l =
    vec_items l.out
    ≡ vec_items l.initial.out ++ in_turn (resource_text (listed l.table).tasks) 0 (take l.place (called l.name-items))
