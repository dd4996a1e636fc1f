-- Refusals as they are told, and their numbers.
--
--   Reason     a refusal with what it tells; a late task is told by its decoded name
--   reason_of  the code's refusals as reasons
--   number_of  the number of each. No other place gives those from 10 on
--   denied_of  the reason that a fault of weighing a table amounts to; none where memory was wanting, or past the last task
use Rattle.std.specs.Prelude.{ℕ, List, Some, None, Option}
use Rattle.std.specs.List.{slice_get}
use Rattle.std.specs.Option.{option_map}
use Rattle.names.specs.Spelled.{spelled}
use Rattle.tables.specs.declared.fault.Notice.{Notice}
use Rattle.tables.specs.Rows.{Listing}
use Rattle.analysis.specs.declared.lateness.Lateness.{Lateness}
use Rattle.analysis.specs.declared.lateness.WeighFault.{WeighFault}
use Rattle.analysis.specs.declared.lateness.WeighFault.TheVariants as fault
use Rattle.listings.specs.declared.denial.Denial.{Denial}
use Rattle.listings.specs.declared.denial.Denial.TheVariants as denial

pub data Reason : Type 0 where
  unread : Notice → Reason
  no_box : Reason
  unlawful : Reason
  late : List ℕ → Lateness → Reason
  short_row : Reason
  unknown_task : Reason

abbrev pub reason_of : Denial → Reason
reason_of (denial.Unread notice) = unread notice
reason_of denial.Box = no_box
reason_of denial.Seat = unlawful
reason_of (denial.Late name lateness) = late (spelled name.now) lateness
reason_of denial.ShortRow = short_row
reason_of denial.NoTask = unknown_task

abbrev pub number_of : Reason → ℕ
number_of (unread notice) = notice.number
number_of no_box = 10
number_of unlawful = 11
number_of (late name lateness) = 12
number_of short_row = 13
number_of unknown_task = 16

-- the decoded name of the task of a rank; none past the last
abbrev pub name_at : Listing → ℕ → Option (List ℕ)
name_at t k = option_map (λ row. row.name) (slice_get t.tasks k)

abbrev pub denied_of : Listing → WeighFault → Option Reason
denied_of t fault.Box = Some no_box
denied_of t fault.Seat = Some unlawful
denied_of t (fault.Late k lateness) = option_map (λ name. late name lateness) (name_at t k)
denied_of t fault.Memory = None
