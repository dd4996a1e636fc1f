-- The inventory of two texts.
--
--   inventory_text  what is printed: the lines of the table that the texts declare, or those of the refusal
--   TasksReadBack   what is printed of a table ends in lines that are themselves a task text: with the same resource
--                  text they read as the same table
use Rattle.std.specs.Prelude.{◌≡◌, ℕ, List, ◌++◌, Ok, Err, Result}
use Rattle.tables.specs.declared.fault.Refusal.{Refusal}
use Rattle.tables.specs.Rows.{Listing}
use Rattle.tables.specs.Reading.{read_of}
use Rattle.tables.specs.Refusals.{notice_of}
use Rattle.reports.specs.Reports.{resources_text, tasks_text, table_text, refusal_text}

abbrev pub answer_text : Result Listing Refusal → List ℕ → List ℕ → List ℕ
answer_text (Ok table) resources tasks = table_text table
answer_text (Err refusal) resources tasks = refusal_text (notice_of refusal) resources tasks

abbrev pub inventory_text : List ℕ → List ℕ → List ℕ
inventory_text resources tasks = answer_text (read_of resources tasks) resources tasks

abbrev pub TasksReadBack : List ℕ → List ℕ → List ℕ → Type 0
TasksReadBack resources tasks printed =
    (t : Listing) → read_of resources tasks ≡ Ok t → (printed ≡ resources_text t ++ tasks_text t) × (read_of resources (tasks_text t) ≡ Ok t)
