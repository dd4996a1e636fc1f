-- A table by its rows.
use Rattle.std.specs.Prelude.{vec_items}
use Rattle.tables.specs.declared.table.Table.{Table}
use Rattle.tables.specs.Rows.{Listing}
use Rattle.tables.specs.Rowed.{called, rows}

abbrev pub listed : Table → Listing
listed t = record { resources = called (vec_items t.resources); tasks = rows (vec_items t.tasks) }
