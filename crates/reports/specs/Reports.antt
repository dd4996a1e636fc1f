-- What is written of a table that was read, and of a refusal.
--
--   resource_text   the line of a resource, by its place and its name
--   guard_of        the name of the resource at a task's place for it; none without a place, or where it is outside
--   figures_of      the figures of a task, field by field: its ticks before, in and after its critical section, its period
--   task_text       the line of a task
--   resources_text  the lines of a table's resources
--   tasks_text      the lines of a table's tasks
--   table_text      the lines of a table: its resources, then its tasks
--   head_text       the line that tells a refusal's number and place
--   quoted          a line as it stands, after two spaces
--   bad_name_text   the line that tells the field and the byte of a bad name; nothing of any other refusal
--   refusal_text    the lines of a refusal, with the line that it is about
use Rattle.std.specs.Prelude.{ℕ, cond, List, [], ◌∷◌, ◌++◌, Some, None, codes, decimal, Option, nat_lt}
use Rattle.std.specs.List.{slice_get}
use Rattle.names.specs.Names.{encoded}
use Rattle.texts.specs.Lines.{line_at}
use Rattle.tables.specs.declared.fault.Notice.{Notice}
use Rattle.tables.specs.Rows.{Row, Listing}
use Rattle.usage.specs.Usage.{ceiling, users, load}
use Rattle.writing.specs.Lines.{line_of, or_dash, in_turn}
use Rattle.writing.specs.Naming.{text_name}

abbrev pub resource_text : List Row → ℕ → List ℕ → List ℕ
resource_text tasks i name =
    line_of (codes "resource" ∷ encoded name ∷ or_dash decimal (ceiling i tasks) ∷ decimal (users i tasks) ∷ decimal (load i tasks) ∷ [])

abbrev pub guard_of : List (List ℕ) → Option ℕ → Option (List ℕ)
guard_of resources None = None
guard_of resources (Some i) = slice_get resources i

abbrev pub figures_of : Row → List (List ℕ)
figures_of row = decimal row.before ∷ decimal row.critical ∷ decimal row.after ∷ decimal row.period ∷ []

abbrev pub task_text : List (List ℕ) → Row → List ℕ
task_text resources row =
    line_of (codes "task" ∷ encoded row.name ∷ figures_of row ++ or_dash encoded (guard_of resources row.resource) ∷ [])

abbrev pub resources_text : Listing → List ℕ
resources_text t = in_turn (resource_text t.tasks) 0 t.resources

abbrev pub tasks_text : Listing → List ℕ
tasks_text t = in_turn (λ _ row. task_text t.resources row) 0 t.tasks

abbrev pub table_text : Listing → List ℕ
table_text t = resources_text t ++ tasks_text t

abbrev pub head_text : Notice → List ℕ
head_text notice = line_of (codes "refused" ∷ decimal notice.number ∷ text_name notice.place.text ∷ decimal notice.place.line ∷ [])

abbrev pub quoted : List ℕ → List ℕ
quoted line = codes "  " ++ line ++ 10 ∷ []

abbrev pub bad_name_text : Notice → List ℕ
bad_name_text notice =
    cond (nat_lt 0 notice.place.byte)
    (line_of (codes "  field" ∷ decimal notice.place.field ∷ codes "byte" ∷ decimal notice.place.byte ∷ []))
    []

abbrev pub refusal_text : Notice → List ℕ → List ℕ → List ℕ
refusal_text notice resources tasks = head_text notice ++ quoted (line_at resources tasks notice.place) ++ bad_name_text notice
