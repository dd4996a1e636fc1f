use Rattle.std.proofs.Common.{leb, rules}
use Rattle.std.proofs.lemmas.List.Sorted.{IsPartitionPoint-from_clause, IsPartitionedBy-leb}
use Rattle.tables.specs.declared.task.Task.{Task}
use Rattle.tables.proofs.Insertion.{rising-periods, spot-point}
use Rattle.tables.proofs.table.growing.spot_of.Goals as goal

pub returns : goal.returns
returns c =
    let parted = IsPartitionedBy-leb (λ (t : Task). t.period) _ c.args.period (rising-periods c.args.tasks.now c.requires) in
    let point = IsPartitionPoint-from_clause (λ (t : Task). leb t.period c.args.period) _ _ c.partition_point.ensures.partitioned parted (λ a r q k. search rules) in
    spot-point c.args.period c.args.tasks.now c.partition_point.result c.partition_point.ensures.bound point
