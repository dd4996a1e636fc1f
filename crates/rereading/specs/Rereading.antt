-- What is printed of a table reads back.
--
--   ReadsBack  the task lines of a table that was read are themselves a task text: with the same resource text they read as the same table
use Rattle.std.specs.Prelude.{◌≡◌, ℕ, List, Ok}
use Rattle.tables.specs.Rows.{Listing}
use Rattle.tables.specs.Reading.{read_of}
use Rattle.reports.specs.Reports.{tasks_text}

abbrev pub ReadsBack : Type 0
ReadsBack = (resources tasks : List ℕ) (t : Listing) → read_of resources tasks ≡ Ok t → read_of resources (tasks_text t) ≡ Ok t
