-- The parts of a task.
--
--   row_at     the task of a rank
--   deadline   the most ticks that a job may take from its arrival on: a part's bound and the sum of the three are limited by it
--   length_of  the length of a part
--   takes      what one job of a better-ranked task takes from a part of this kind on its processor
--   bound_of   one of three numbers, by the part that it is for
--   total      the sum of the three
use Rattle.std.specs.Prelude.{ℕ, ◌+◌, List, [], None, slice_index_or}
use Rattle.tables.specs.Rows.{Row}
use Rattle.analysis.specs.declared.part.PartKind.{PartKind}
use Rattle.analysis.specs.declared.part.PartKind.TheVariants.{Before, Critical, After}
use Rattle.analysis.specs.declared.part.Bounds.{Bounds}

-- what stands past the last task: one that does nothing
abbrev pub no_task : Row
no_task = record { name = []; before = 0; critical = 0; after = 0; period = 1; resource = None }

abbrev pub row_at : List Row → ℕ → Row
row_at rows k = slice_index_or rows k no_task

-- the period is the least time between two arrivals; today the deadline is as long
abbrev pub deadline : Row → ℕ
deadline r = r.period

abbrev pub length_of : PartKind → Row → ℕ
length_of Before r = r.before
length_of Critical r = r.critical
length_of After r = r.after

abbrev pub takes : PartKind → Row → ℕ
takes Before r = r.before + r.after
takes Critical r = r.critical
takes After r = r.before + r.after

abbrev pub bound_of : PartKind → Bounds → ℕ
bound_of Before x = x.before
bound_of Critical x = x.critical
bound_of After x = x.after

abbrev pub total : Bounds → ℕ
total x = x.before + x.critical + x.after
