-- What a part needs within a number of ticks.
--
--   taken_by  what one better-ranked task takes from a part: for each of its periods that begins within t ticks, what a job
--             takes, where both are served by one processor
--   term_of   what it takes in each of its periods, as the code has it
--   once      what a part takes itself: its length, a critical part its blocking term too
--   need      both together, over all better-ranked tasks
use Rattle.std.specs.Prelude.{ℕ, ◌+◌, ◌*◌, ◌<◌, ◌≤◌, cond, List}
use Rattle.std.proofs.Common.{arith}
use Rattle.bounds.specs.declared.term.Term.{Term}
use Rattle.bounds.specs.Least.{longest}
use Rattle.bounds.specs.Sums.{ceil, sum_to}
use Rattle.tables.specs.declared.task.Task.{Task}
use Rattle.tables.specs.Rowed.{row_of}
use Rattle.tables.specs.Rows.{Row}
use Rattle.analysis.specs.declared.part.PartKind.{PartKind}
use Rattle.analysis.specs.declared.part.PartKind.TheVariants.{Before, Critical, After}
use Rattle.analysis.specs.Parts.{row_at, takes}
use Rattle.analysis.specs.Seats.{Seats, together}

abbrev pub taken_by : Seats → List Row → PartKind → ℕ → ℕ → ℕ → ℕ
taken_by s rows kind k t i = cond (together s rows kind i k) (ceil t (row_at rows i).period * takes kind (row_at rows i)) 0

-- a job fits its period, which is a time that is counted
pub period-some : (t : Task) → 0 < t.period
period-some t = omega (arith, t.spaced)

pub period-counted : (t : Task) → t.period ≤ longest
period-counted t = omega (arith, t.spaced)

pub takes-within : (kind : PartKind) (t : Task) → takes kind (row_of t) ≤ t.period
takes-within Before t = omega (arith, t.filled)
takes-within Critical t = omega (arith, t.filled)
takes-within After t = omega (arith, t.filled)

abbrev pub term_of : PartKind → Task → Term
term_of kind t =
    record {
      period = t.period;
      length = takes kind (row_of t);
      some = period-some t;
      fits = takes-within kind t;
      counted = period-counted t;
    }

-- the blocking term counts for a critical part alone
abbrev pub once : PartKind → ℕ → Row → ℕ
once Before blocking r = r.before
once Critical blocking r = blocking + r.critical
once After blocking r = r.after

abbrev pub need : Seats → List Row → ℕ → PartKind → ℕ → ℕ → ℕ
need s rows blocking kind k t = once kind blocking (row_at rows k) + sum_to (taken_by s rows kind k t) k
