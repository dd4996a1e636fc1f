-- What the code's answers promise, where memory may be wanting.
--
--   Told  an answer, seen through `f`, is the one that is wanted; nothing is promised where memory was wanting
use Rattle.std.specs.Prelude.{◌≡◌, Ok, Err, Result}
use Rattle.entries.specs.declared.fault.LineFault.{LineFault}
use Rattle.entries.specs.declared.fault.LineError.{LineError}
use Rattle.entries.specs.declared.fault.LineError.TheVariants.{Fault, Memory}

abbrev pub Told : {X Y : Type 0} → Result X LineError → (X → Y) → Result Y LineFault → Type 0
Told (Ok x) f wanted = wanted ≡ Ok (f x)
Told (Err (Fault e)) f wanted = wanted ≡ Err e
Told (Err Memory) f wanted = Unit {0}
