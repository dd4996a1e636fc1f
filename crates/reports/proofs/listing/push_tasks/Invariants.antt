use Rattle.std.proofs.Common.{◌≡◌, ◌++◌, take, vec_items}
use Rattle.tables.specs.Listed.{listed}
use Rattle.tables.specs.Rowed.{rows}
use Rattle.writing.specs.Lines.{in_turn}
use Rattle.reports.specs.Reports.{task_text}
use Rattle.reports.proofs.listing.push_tasks.Given as goal

-- the lines of the tasks so far are written
abbrev pub invariant-loop-task : goal.invariant-loop-task
invariant-loop-task l =
    vec_items l.out
    ≡ vec_items l.initial.out ++ in_turn (λ _ row. task_text (listed l.table).resources row) 0 (take l.task-index (rows l.task-items))
