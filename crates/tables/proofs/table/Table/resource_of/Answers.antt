use Rattle.std.proofs.Common.{Some, vec_items, rules}
use Rattle.names.specs.Spelled.{spelled}
use Rattle.tables.specs.Rowed.{called}
use Rattle.tables.proofs.Places.{resource_within}
use Rattle.tables.proofs.table.Table.resource_of.Goals as goal

pub returns-in-Some-clause-known : goal.returns-in-Some-clause-known
returns-in-Some-clause-known c = resource_within (called (vec_items c.args.self.now.resources)) (Some (spelled c.in-Some.name)) c.ok_or.result (search rules)
