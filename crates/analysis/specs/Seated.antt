-- A table with its seats, as the code has it.
--
--   seats_in     the processors of its resources and of its tasks
--   listing_in   its resources and its tasks
--   rows_in      its tasks by rank
--   row_or_none  the row of a task that was found; without one, what stands past the last task
use Rattle.std.specs.Prelude.{List, Some, None, Option}
use Rattle.tables.specs.declared.task.Task.{Task}
use Rattle.tables.specs.Listed.{listed}
use Rattle.tables.specs.Rowed.{row_of}
use Rattle.tables.specs.Rows.{Row, Listing}
use Rattle.analysis.specs.declared.seated.Seated.{Seated}
use Rattle.analysis.specs.Parts.{no_task}
use Rattle.analysis.specs.Seats.{Seats}

abbrev pub seats_in : Seated → Seats
seats_in s = record { resources = s.sites.now; tasks = s.homes.now }

abbrev pub listing_in : Seated → Listing
listing_in s = listed s.table.now

abbrev pub rows_in : Seated → List Row
rows_in s = (listing_in s).tasks

abbrev pub row_or_none : Option Task → Row
row_or_none None = no_task
row_or_none (Some t) = row_of t
