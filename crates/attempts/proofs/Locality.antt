-- How a task is judged does not ask where worse-ranked tasks sit.
--
--   Alike         two seatings have the same seats of resources, and of the tasks up to a rank
--   need-same     under both, a part of the task of that rank needs the same
--   bound-same    so it has the same bound
--   judged-same   and the task is judged the same
--   judged-front  so it is judged the same when only the tasks up to its rank have seats
use Rattle.std.proofs.Common.{◌≡◌, ℕ, ◌+◌, ◌*◌, ◌<◌, ◌≤◌, cond, eqb, List, get_or, take, Some, None, Err, Option, Result, refl, ap, ap₂, arith}
use mathlib.Core.Path.{fun_ext}
use Rattle.std.proofs.lemmas.List.{get_or-take}
use Rattle.bounds.specs.Least.{least}
use Rattle.bounds.specs.Sums.{ceil}
use Rattle.bounds.specs.Takings.{sum_to-same}
use Rattle.tables.specs.Rows.{Row}
use Rattle.analysis.specs.declared.lateness.Lateness.{Lateness}
use Rattle.analysis.specs.declared.lateness.Lateness.TheVariants.{NoBound}
use Rattle.analysis.specs.declared.part.Bounds.{Bounds}
use Rattle.analysis.specs.declared.part.PartKind.{PartKind}
use Rattle.analysis.specs.declared.part.PartKind.TheVariants.{Before, Critical, After}
use Rattle.analysis.specs.Judging.{bound, fitting, judged}
use Rattle.analysis.specs.Needs.{need, once, taken_by}
use Rattle.analysis.specs.Parts.{deadline, length_of, row_at, takes}
use Rattle.analysis.specs.Seats.{Seats, same_place, served_at, site_of, together}

pub record Alike (k : ℕ) (s u : Seats) : Type 0 where
  pub sites : s.resources ≡ u.resources
  pub homes : (i : ℕ) → i ≤ k → get_or s.tasks i 0 ≡ get_or u.tasks i 0

-- the task of rank k, under two such seatings
module _ (s u : Seats) (rows : List Row) (k : ℕ) (alike : Alike k s u) where
  served-same : (kind : PartKind) (i : ℕ) → i ≤ k → served_at s rows kind i ≡ served_at u rows kind i
  served-same Before i h = ap Some (alike.homes i h)
  served-same Critical i h = ap (λ sites. site_of sites (row_at rows i).resource) alike.sites
  served-same After i h = ap Some (alike.homes i h)

  together-same : (kind : PartKind) (i : ℕ) → i < k → together s rows kind i k ≡ together u rows kind i k
  together-same kind i h = ap₂ same_place (served-same kind i (omega arith)) (served-same kind k (omega arith))

  taken-same : (kind : PartKind) (t i : ℕ) → i < k → taken_by s rows kind k t i ≡ taken_by u rows kind k t i
  taken-same kind t i h =
      ap (λ here. cond here (ceil t (row_at rows i).period * takes kind (row_at rows i)) 0) (together-same kind i h)

  module _ (b : ℕ) where
    pub need-same : (kind : PartKind) (t : ℕ) → need s rows b kind k t ≡ need u rows b kind k t
    need-same kind t =
        ap (λ taken. once kind b (row_at rows k) + taken)
        (sum_to-same (taken_by s rows kind k t) (taken_by u rows kind k t) k (taken-same kind t))

    pub bound-same : (kind : PartKind) → bound s rows b kind k ≡ bound u rows b kind k
    bound-same kind =
        ap (λ f. cond (eqb (length_of kind (row_at rows k)) 0) (Some 0) (least f (deadline (row_at rows k))))
        (fun_ext (need-same kind))

    -- a judgement by the bounds of the three parts, wherever they come from
    abbrev judged_by : Option ℕ → Option ℕ → Option ℕ → Result Bounds Lateness
    judged_by ob oc oa =
        elim ob [
          | None ↦ Err (NoBound Before)
          | Some n ↦ elim oc [
            | None ↦ Err (NoBound Critical)
            | Some c ↦ elim oa [
              | None ↦ Err (NoBound After)
              | Some a ↦ fitting s rows b k (record { before = n; critical = c; after = a })
            ]
          ]
        ]

    pub judged-same : judged s rows b k ≡ judged u rows b k
    judged-same = λ i. judged_by (bound-same Before i) (bound-same Critical i) (bound-same After i)

pub judged-front : (s : Seats) (rows : List Row) (b k : ℕ)
    → judged (record { resources = s.resources; tasks = take (k + 1) s.tasks }) rows b k ≡ judged s rows b k
judged-front s rows b k =
    judged-same _ s rows k (record { sites = refl; homes = λ i h. get_or-take (k + 1) s.tasks i 0 (omega arith) }) b
