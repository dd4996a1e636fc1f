-- What an answer of weighing says of the inequalities, and what they say of it.
--
--   Timely     three numbers meet the inequalities of a task's parts under a relation, and add up to at most its deadline
--   NoTimely   no three numbers do
--   FirstMiss  how a task is late: no number meets the inequality of this part and some number meets that of each part before
--               it; or some number meets each of the three
--   LeastOnes  three numbers are timely, and each is the least that meets its part's inequality
--   Exactness  late is said exactly if for some task no three numbers are timely, and of the first such task; otherwise the
--               plan has the least ones
use Rattle.std.specs.Prelude.{◌≡◌, ℕ, ◌<◌, ◌≤◌, true, List, length, Ok, Err, Result, slice_index_or}
use Rattle.disciplines.specs.Rules.{Relation}
use Rattle.tables.specs.Rows.{Row, Listing}
use Rattle.analysis.specs.declared.lateness.Lateness.{Lateness}
use Rattle.analysis.specs.declared.lateness.Lateness.TheVariants.{NoBound, Whole}
use Rattle.analysis.specs.declared.lateness.WeighFault.{WeighFault}
use Rattle.analysis.specs.declared.lateness.WeighFault.TheVariants.{Late}
use Rattle.analysis.specs.declared.part.Bounds.{Bounds}
use Rattle.analysis.specs.declared.part.PartKind.{PartKind}
use Rattle.analysis.specs.declared.part.PartKind.TheVariants.{Before, Critical, After}
use Rattle.analysis.specs.Blocking.{blocking}
use Rattle.analysis.specs.Judging.{fits, meets}
use Rattle.analysis.specs.Parts.{bound_of}
use Rattle.analysis.specs.Seats.{Seats, lawful}
use Rattle.analysis.specs.Weighing.{Planned, no_bounds, weigh_of}

module _ (may : Relation) (s : Seats) (rows : List Row) where
  -- t meets the inequality of a part of task k
  abbrev pub Met : PartKind → ℕ → ℕ → Type 0
  Met kind k t = meets s rows (blocking may s rows k) kind k t ≡ true

  abbrev pub Timely : ℕ → Bounds → Type 0
  Timely k x = fits s rows (blocking may s rows k) k x ≡ true

  abbrev pub NoTimely : ℕ → Type 0
  NoTimely k = (x : Bounds) → Timely k x → ⊥

  -- some number meets a part's inequality
  abbrev pub Meetable : PartKind → ℕ → Type 0
  Meetable kind k = (t : ℕ) × Met kind k t

  -- no number does
  abbrev pub Unmeetable : PartKind → ℕ → Type 0
  Unmeetable kind k = (t : ℕ) → Met kind k t → ⊥

  abbrev pub FirstMiss : ℕ → Lateness → Type 0
  FirstMiss k (NoBound Before) = Unmeetable Before k
  FirstMiss k (NoBound Critical) = Meetable Before k × Unmeetable Critical k
  FirstMiss k (NoBound After) = Meetable Before k × Meetable Critical k × Unmeetable After k
  FirstMiss k Whole = Meetable Before k × Meetable Critical k × Meetable After k

  pub record LeastOnes (k : ℕ) (x : Bounds) : Type 0 where
    pub timely : Timely k x
    pub least : (kind : PartKind) (t : ℕ) → Met kind k t → bound_of kind x ≤ t

  -- the first task of which no three numbers are timely, and how it is late
  pub record FirstLate (k : ℕ) (lateness : Lateness) : Type 0 where
    pub task : k < length rows
    pub none : NoTimely k
    pub miss : FirstMiss k lateness
    pub earlier : (j : ℕ) → j < k → (x : Bounds) × Timely j x

pub record Exactness (may : Relation) (m q : ℕ) (t : Listing) (s : Seats) (answer : Result Planned WeighFault) : Type 0 where
  -- late is said only of the first task with no three timely numbers
  pub late : (k : ℕ) (lateness : Lateness) → answer ≡ Err (Late k lateness) → FirstLate may s t.tasks k lateness
  -- and it is said of a lawful seating wherever there is such a task
  pub told : lawful m q t s ≡ true → (k : ℕ) → k < length t.tasks → NoTimely may s t.tasks k
      → (j : ℕ) × (lateness : Lateness) × (answer ≡ Err (Late j lateness))
  -- otherwise the plan has the least numbers
  pub least : (plan : Planned) → answer ≡ Ok plan → (k : ℕ) → k < length t.tasks
      → LeastOnes may s t.tasks k (slice_index_or plan.bounds k no_bounds)

-- weighing is exact under every relation
abbrev pub Weighing-is-exact : Type 0
Weighing-is-exact = (may : Relation) (m q : ℕ) (t : Listing) (s : Seats) → Exactness may m q t s (weigh_of may m q t s)
