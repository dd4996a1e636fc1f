-- The bounds of a task.
--
--   meets   whether a number of ticks meets a part's inequality: 0 at length 0; otherwise it lies from 1 to the deadline, and the
--           need within it is at most itself
--   bound   the least number that does
--   fits    whether three numbers meet the inequalities of a task's parts, and add up to at most its deadline
--   judged  a task's three bounds; else its first part that has none, or the whole where they add up to too much
use Rattle.std.specs.Prelude.{ℕ, Bool, cond, ◌&&◌, List, Some, None, Ok, Err, Option, Result, ◌==◌, nat_le}
use Rattle.bounds.specs.Least.{least}
use Rattle.tables.specs.Rows.{Row}
use Rattle.analysis.specs.declared.lateness.Lateness.{Lateness}
use Rattle.analysis.specs.declared.lateness.Lateness.TheVariants.{NoBound, Whole}
use Rattle.analysis.specs.declared.part.Bounds.{Bounds}
use Rattle.analysis.specs.declared.part.PartKind.{PartKind}
use Rattle.analysis.specs.declared.part.PartKind.TheVariants.{Before, Critical, After}
use Rattle.analysis.specs.Needs.{need}
use Rattle.analysis.specs.Parts.{deadline, length_of, row_at, total}
use Rattle.analysis.specs.Seats.{Seats}

module _ (s : Seats) (rows : List Row) (blocking : ℕ) where
  abbrev pub meets : PartKind → ℕ → ℕ → Bool
  meets kind k t =
      cond (length_of kind (row_at rows k) == 0) (t == 0)
      ((nat_le 1 t && nat_le t (deadline (row_at rows k))) && nat_le (need s rows blocking kind k t) t)

  abbrev pub bound : PartKind → ℕ → Option ℕ
  bound kind k = cond (length_of kind (row_at rows k) == 0) (Some 0) (least (need s rows blocking kind k) (deadline (row_at rows k)))

  abbrev pub fits : ℕ → Bounds → Bool
  fits k x =
      (meets Before k x.before && (meets Critical k x.critical && meets After k x.after))
      && nat_le (total x) (deadline (row_at rows k))

  -- three bounds, where they add up to at most the deadline
  abbrev pub fitting : ℕ → Bounds → Result Bounds Lateness
  fitting k x = cond (nat_le (total x) (deadline (row_at rows k))) (Ok x) (Err Whole)

  -- the judgement of a task whose critical part has this bound, or none
  abbrev pub judged_with : Option ℕ → ℕ → Result Bounds Lateness
  judged_with critical k =
      elim (bound Before k) [
        | None ↦ Err (NoBound Before)
        | Some b ↦ elim critical [
          | None ↦ Err (NoBound Critical)
          | Some c ↦ elim (bound After k) [
            | None ↦ Err (NoBound After)
            | Some a ↦ fitting k (record { before = b; critical = c; after = a })
          ]
        ]
      ]

  abbrev pub judged : ℕ → Result Bounds Lateness
  judged k = judged_with (bound Critical k) k
