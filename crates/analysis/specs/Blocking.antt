-- The blocking term of a critical section.
--
--   section   a task's critical section as a discipline sees it
--   blocks    whether a task's section ranks worse than another's, sits on its processor and may hold against it
--   blocking  the greatest length of those; 0 if there is none
use Rattle.std.specs.Prelude.{ℕ, zero, suc, min, max, Bool, cond, ◌&&◌, List, length, unwrap_or, nat_lt}
use Rattle.std.proofs.Common.{arith}
use Rattle.disciplines.specs.declared.section.Section.{Section}
use Rattle.disciplines.specs.Rules.{Relation}
use Rattle.tables.specs.Rows.{Row}
use Rattle.usage.specs.Usage.{ceiling}
use Rattle.analysis.specs.declared.part.PartKind.TheVariants.{Critical}
use Rattle.analysis.specs.Parts.{row_at}
use Rattle.analysis.specs.Seats.{Seats, together}

-- a table has at most 64 tasks and 32 resources, so the limits that a section's type asks for cut nothing off
abbrev pub section : List Row → ℕ → Section
section rows k =
    record {
      rank = min k 63;
      resource = min (unwrap_or (row_at rows k).resource 0) 31;
      ceiling = min (unwrap_or (ceiling (unwrap_or (row_at rows k).resource 0) rows) 0) 63;
      small = (omega arith, omega arith, omega arith);
    }

abbrev pub blocks : Relation → Seats → List Row → ℕ → ℕ → Bool
blocks may s rows k j = nat_lt k j && (together s rows Critical j k && may (section rows j) (section rows k))

-- the greatest f among the first n numbers, from 0 on
abbrev pub greatest : (ℕ → ℕ) → ℕ → ℕ
greatest f zero = 0
greatest f (suc n) = max (greatest f n) (f n)

abbrev pub blocking : Relation → Seats → List Row → ℕ → ℕ
blocking may s rows k = greatest (λ j. cond (blocks may s rows k j) (row_at rows j).critical 0) (length rows)
