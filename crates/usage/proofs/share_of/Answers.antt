use Rattle.std.proofs.Common.{◌≡◌, ◌*◌, div-le_self, arith, rules}
use Rattle.tables.specs.Rowed.{row_of}
use Rattle.usage.specs.Usage.{share}
use Rattle.usage.proofs.share_of.Goals as goal

pub returns : goal.returns
returns c =
    let value : c.div_ceil.result ≡ share (row_of c.args.task.now) = search rules in
    record { value = value; bound = omega (arith, div-le_self (1000000 * c.args.task.now.critical) c.args.task.now.period) }
