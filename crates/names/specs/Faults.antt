-- Where the fault of a name begins in its field, counted from 1.
use Rattle.std.specs.Prelude.{ℕ}
use Rattle.names.specs.declared.fault.NameFault.{NameFault}
use Rattle.names.specs.declared.fault.NameFault.TheVariants.{Empty, BadEntity, TooLong, LoneHyphen}

abbrev pub fault_byte : NameFault → ℕ
fault_byte Empty = 1
fault_byte (BadEntity at) = at
fault_byte (TooLong at) = at
fault_byte LoneHyphen = 1
