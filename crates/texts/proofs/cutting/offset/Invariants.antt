use Rattle.std.proofs.Common.{◌≡◌, ◌+◌, drop}
use Rattle.texts.specs.Lines.{reach}
use Rattle.texts.proofs.cutting.offset.Given as goal

abbrev pub invariant-loop-i : goal.invariant-loop-i
invariant-loop-i l = l.i + reach l.separator (drop l.i l.bytes) ≡ reach l.separator l.bytes
