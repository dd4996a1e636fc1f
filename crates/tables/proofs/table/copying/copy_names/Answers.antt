use Rattle.names.specs.Spelled.{spelled}
use Rattle.tables.proofs.Copies.{map-copied}
use Rattle.tables.proofs.table.copying.copy_names.Goals as goal

pub returns-clause-value : goal.returns-clause-value
returns-clause-value c = map-copied spelled c.args.names.now.items _ _ c.clone.result c.clone.ensures.cases
