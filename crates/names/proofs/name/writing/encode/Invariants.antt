use Rattle.std.proofs.Common.{◌≡◌, take, vec_items}
use Rattle.names.specs.Names.{encoded}
use Rattle.names.proofs.name.writing.encode.Given as goal

abbrev pub invariant-loop-byte : goal.invariant-loop-byte
invariant-loop-byte l = vec_items l.out ≡ encoded (take l.byte-index l.name)
