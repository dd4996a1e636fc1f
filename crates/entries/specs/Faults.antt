-- A fault where it was found.
use Rattle.std.specs.Prelude.{Ok, Err, Result}
use Rattle.entries.specs.declared.fault.At.{At}

abbrev pub located : {P X E : Type 0} → P → Result X E → Result X (At P E)
located place (Ok x) = Ok x
located place (Err e) = Err (record { place = place; fault = e })
