-- The table that two texts declare, or the first fault.
--
--   with_resource  the table with one resource more
--   place_for      the place of a new task's resource, where the table has room for the task and none of its name
--   fitted         the row of a new task, where its lengths, its period and its resource fit together
--   with_entry     the table with one task more
--   within_limit   whether a text is short enough
--   read_line      the table after one line more of a text
--   read_lines     the table after the lines of a text, from line k on
--   read_of        the table of a resource text and a task text
use Rattle.std.specs.Prelude.{ℕ, ◌+◌, Bool, cond, not, ◌||◌, List, [], ◌∷◌, ◌++◌, length, Some, None, Ok, Err, Option, Result, ◌==◌, nat_le, nat_lt}
use Rattle.texts.specs.declared.place.Text.{Text}
use Rattle.texts.specs.declared.place.Text.TheVariants.{Resources, Tasks}
use Rattle.texts.specs.Lines.{lines}
use Rattle.entries.specs.declared.fault.LineFault.{LineFault}
use Rattle.entries.specs.declared.fault.LineFault.TheVariants.{Full, Twice, Unknown, Unmatched, Overfull}
use Rattle.entries.specs.Entries.{Entry, ◌then◌, resource_line, task_line}
use Rattle.tables.specs.declared.fault.Refusal.{Refusal}
use Rattle.tables.specs.declared.fault.Refusal.TheVariants.{Long, Line}
use Rattle.tables.specs.Rows.{Row, Listing, row_names, has, place_of, placed}

abbrev pub with_resource : Listing → List ℕ → Result Listing LineFault
with_resource t n =
    cond (nat_le 32 (length t.resources)) (Err Full)
    (cond (has n t.resources) (Err Twice)
    (Ok (record { resources = t.resources ++ n ∷ []; tasks = t.tasks })))

-- a name that has no place is unknown
abbrev pub or_unknown : Option ℕ → Result (Option ℕ) LineFault
or_unknown None = Err Unknown
or_unknown (Some i) = Ok (Some i)

-- the place of the resource that a task names
abbrev pub resource_for : List (List ℕ) → Option (List ℕ) → Result (Option ℕ) LineFault
resource_for rs None = Ok None
resource_for rs (Some n) = or_unknown (place_of n rs)

-- a task has a resource exactly if it has a critical section
abbrev pub matched : Option ℕ → ℕ → Bool
matched None critical = critical == 0
matched (Some i) critical = nat_lt 0 critical

-- the lengths of the three parts together
abbrev pub total : Entry → ℕ
total e = e.before + e.critical + e.after

abbrev pub fitted : Entry → Option ℕ → Result Row LineFault
fitted e g =
    cond (not (matched g e.critical)) (Err Unmatched)
    (cond (total e == 0 || nat_lt e.period (total e)) (Err Overfull)
    (Ok (record { name = e.name; before = e.before; critical = e.critical; after = e.after; period = e.period; resource = g })))

abbrev pub place_for : Listing → Entry → Result (Option ℕ) LineFault
place_for t e =
    cond (nat_le 64 (length t.tasks)) (Err Full)
    (cond (has e.name (row_names t.tasks)) (Err Twice)
    (resource_for t.resources e.resource))

-- the table with a row in its place by period
abbrev pub with_task : Listing → Row → Listing
with_task t r = record { resources = t.resources; tasks = placed r t.tasks }

abbrev pub with_entry : Listing → Entry → Result Listing LineFault
with_entry t e = place_for t e then (λ g. fitted e g then (λ r. Ok (with_task t r)))

abbrev pub read_line : Text → Listing → List ℕ → Result Listing LineFault
read_line Resources t line = resource_line line then with_resource t
read_line Tasks t line = task_line line then with_entry t

-- a line's fault with its text and number
abbrev pub read_lines : Text → ℕ → Listing → List (List ℕ) → Result Listing Refusal
read_lines text k t [] = Ok t
read_lines text k t (l ∷ ls) = elim (read_line text t l) [ Ok u ↦ read_lines text (k + 1) u ls | Err e ↦ Err (Line text k e) ]

-- no resource and no task
abbrev pub empty_table : Listing
empty_table = record { resources = []; tasks = [] }

abbrev pub within_limit : Text → List ℕ → Result Unit Refusal
within_limit text bytes = cond (nat_lt 32768 (length bytes)) (Err (Long text)) (Ok tt)

abbrev pub read_of : List ℕ → List ℕ → Result Listing Refusal
read_of resources tasks =
    within_limit Resources resources then (λ _.
    within_limit Tasks tasks then (λ _.
    read_lines Resources 1 empty_table (lines resources) then (λ t.
    read_lines Tasks 1 t (lines tasks))))
