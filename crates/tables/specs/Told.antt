-- What a call answers, unless memory was wanting.
use Rattle.std.specs.Prelude.{◌≡◌, Ok, Err, Result}
use Rattle.tables.specs.declared.fault.ReadFault.{ReadFault}
use Rattle.tables.specs.declared.fault.ReadFault.TheVariants.{Refused, Memory}
use Rattle.tables.specs.declared.fault.Refusal.{Refusal}

-- the value that f says of the answer, or the refusal that was answered, is what the definition wants
abbrev pub Told : {X Y : Type 0} → Result X ReadFault → (X → Y) → Result Y Refusal → Type 0
Told (Ok x) f wanted = wanted ≡ Ok (f x)
Told (Err (Refused refusal)) f wanted = wanted ≡ Err refusal
Told (Err Memory) f wanted = Unit {0}
