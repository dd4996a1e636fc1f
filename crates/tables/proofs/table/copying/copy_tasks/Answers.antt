use Rattle.tables.specs.Rowed.{row_of}
use Rattle.tables.proofs.Copies.{map-copied}
use Rattle.tables.proofs.table.copying.copy_tasks.Goals as goal

pub returns-clause-value : goal.returns-clause-value
returns-clause-value c = map-copied row_of c.args.tasks.now.items _ _ c.clone.result c.clone.ensures.cases
