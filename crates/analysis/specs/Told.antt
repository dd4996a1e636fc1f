-- What a call answers, unless memory was wanting; and a seating by its seats.
use Rattle.std.specs.Prelude.{◌≡◌, Ok, Err, vec_items, Result}
use Rattle.analysis.specs.declared.lateness.WeighFault.{WeighFault}
use Rattle.analysis.specs.declared.lateness.WeighFault.TheVariants.{Box, Seat, Late, Memory}
use Rattle.analysis.specs.declared.seating.Seating.{Seating}
use Rattle.analysis.specs.Seats.{Seats}

-- the value that f says of the answer, or the fault that was answered, is what the definition wants
abbrev pub Told : {X Y : Type 0} → Result X WeighFault → (X → Y) → Result Y WeighFault → Type 0
Told (Ok x) f wanted = wanted ≡ Ok (f x)
Told (Err Box) f wanted = wanted ≡ Err Box
Told (Err Seat) f wanted = wanted ≡ Err Seat
Told (Err (Late k lateness)) f wanted = wanted ≡ Err (Late k lateness)
Told (Err Memory) f wanted = Unit {0}

-- who sits where
abbrev pub seats_of : Seating → Seats
seats_of s = record { resources = vec_items s.resources; tasks = vec_items s.tasks }
