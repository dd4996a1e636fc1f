-- What tasks that go before a part take from it.
use Rattle.std.specs.Prelude.{ℕ, ◌*◌, List, length, slice_index_or}
use Rattle.std.proofs.Common.{lit<, lit≤}
use Rattle.bounds.specs.declared.term.Term.{Term}
use Rattle.bounds.specs.Sums.{ceil, sum_to}

-- a task that takes nothing
abbrev pub idle : Term
idle = record { period = 1; length = 0; some = lit< tt; fits = lit≤ tt; counted = lit≤ tt }

-- what one task takes within t ticks: its length for each period that begins in them
abbrev pub taken : Term → ℕ → ℕ
taken term t = ceil t term.period * term.length

-- what all of the tasks take within t ticks
abbrev pub interference : List Term → ℕ → ℕ
interference terms t = sum_to (λ i. taken (slice_index_or terms i idle) t) (length terms)
