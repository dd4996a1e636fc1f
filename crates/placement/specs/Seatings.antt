-- What is found, as the code has it.
use Rattle.std.specs.Prelude.{ℕ, Some, None, Option}
use Rattle.analysis.specs.declared.lateness.Lateness.{Lateness}
use Rattle.analysis.specs.declared.lateness.Lateness.TheVariants.{NoBound, Whole}
use Rattle.analysis.specs.declared.part.PartKind.TheVariants.{Critical}
use Rattle.analysis.specs.declared.seating.Seating.{Seating}
use Rattle.analysis.specs.Told.{seats_of}
use Rattle.attempts.specs.Placing.{Found}

-- a seating that was found
abbrev pub found_in : Seating → Found
found_in s = record { syncs = s.syncs; seats = seats_of s }

-- how a task is late that no processor takes, its critical part having this bound, or none
abbrev pub late_with : Option ℕ → Lateness
late_with None = NoBound Critical
late_with (Some c) = Whole
