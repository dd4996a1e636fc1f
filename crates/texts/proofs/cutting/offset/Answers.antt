use Rattle.std.proofs.Common.{arith}
use Rattle.texts.proofs.Cuts.{reach_here, reach-next, reach-end}
use Rattle.texts.proofs.cutting.offset.Goals as goal

pub returns-then-b-separator : goal.returns-then-b-separator
returns-then-b-separator c =
    let e = reach_here c.args.separator c.args.bytes.now c.loop-i.i (omega arith) c.if-b-separator.true in
    record { value = omega arith; within = omega arith }

pub loop-i-preserved : goal.loop-i-preserved
loop-i-preserved c = let e = reach-next c.args.separator c.args.bytes.now c.loop-i.i (omega arith) c.if-b-separator.false in omega arith

pub returns : goal.returns
returns c =
    let e = reach-end c.args.separator c.args.bytes.now c.loop-i.i (omega arith) in
    record { value = omega arith; within = omega arith }
