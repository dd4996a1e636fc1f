-- The code's tasks and names as rows and bytes.
use Rattle.std.specs.Prelude.{ℕ, List, map, Ok, Err, Result}
use Rattle.names.specs.declared.name.Name.{Name}
use Rattle.names.specs.Spelled.{spelled}
use Rattle.entries.specs.declared.fault.LineFault.{LineFault}
use Rattle.tables.specs.declared.task.Task.{Task}
use Rattle.tables.specs.Rows.{Row}

-- a task as a row
abbrev pub row_of : Task → Row
row_of t =
    record {
      name = spelled t.name;
      before = t.before;
      critical = t.critical;
      after = t.after;
      period = t.period;
      resource = t.resource;
    }

abbrev pub rows : List Task → List Row
rows ts = map row_of ts

-- names as their bytes
abbrev pub called : List Name → List (List ℕ)
called ns = map spelled ns

-- an answer's task as a row
abbrev pub rowed : Result Task LineFault → Result Row LineFault
rowed (Ok t) = Ok (row_of t)
rowed (Err e) = Err e
