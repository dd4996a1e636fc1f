use Rattle.tables.specs.Listed.{listed}
use Rattle.tables.specs.Rowed.{row_of}
use Rattle.reports.specs.Reports.{task_text}
use Rattle.writing.proofs.Turns.{turn_more}
use Rattle.reports.proofs.listing.push_tasks.Goals as goal

pub loop-task-preserved : goal.loop-task-preserved
loop-task-preserved c =
    turn_more (λ _ row. task_text (listed c.args.table.now).resources row) row_of _ _ _ _ _ _
    c.loop-task-test.true c.task-item.is c.loop-task.invariant c.in_ok-push_task.ensures
