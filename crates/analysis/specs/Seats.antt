-- Where resources and tasks sit.
--
--   Seats      a processor for each resource and for each task
--   served_at  the processor that serves a task's parts of a kind
--   together   whether two tasks have their parts of a kind served by one processor
--   is_box     whether a box may have so many processors
--   lawful     whether a seating is lawful: the last q of m processors are synchronisation processors and have all resources,
--             the others are application processors and have all tasks
use Rattle.std.specs.Prelude.{ℕ, ◌-◌, Bool, false, ◌&&◌, List, length, Some, None, Option, ◌==◌, nat_le, nat_lt, slice_index}
use Rattle.std.specs.List.{list_all}
use Rattle.tables.specs.Rows.{Row, Listing}
use Rattle.analysis.specs.declared.part.PartKind.{PartKind}
use Rattle.analysis.specs.declared.part.PartKind.TheVariants.{Before, Critical, After}
use Rattle.analysis.specs.Parts.{row_at}

pub record Seats : Type 0 where
  pub resources : List ℕ
  pub tasks : List ℕ

-- the processor of a task's resource; none without a resource
abbrev pub site_of : List ℕ → Option ℕ → Option ℕ
site_of seats None = None
site_of seats (Some i) = Some (slice_index seats i)

abbrev pub served_at : Seats → List Row → PartKind → ℕ → Option ℕ
served_at s rows Before k = Some (slice_index s.tasks k)
served_at s rows Critical k = site_of s.resources (row_at rows k).resource
served_at s rows After k = Some (slice_index s.tasks k)

-- there are two processors, and they are the same
abbrev pub same_place : Option ℕ → Option ℕ → Bool
same_place None q = false
same_place (Some p) None = false
same_place (Some p) (Some q) = p == q

abbrev pub together : Seats → List Row → PartKind → ℕ → ℕ → Bool
together s rows kind i k = same_place (served_at s rows kind i) (served_at s rows kind k)

abbrev pub is_box : ℕ → Bool
is_box m = nat_le 2 m && nat_le m 16

-- a processor from low on and below high
abbrev pub is_from : ℕ → ℕ → ℕ → Bool
is_from low high p = nat_le low p && nat_lt p high

-- each is such a processor
abbrev pub all_from : ℕ → ℕ → List ℕ → Bool
all_from low high seats = list_all (is_from low high) seats

-- as many seats as rows, each such a processor
abbrev pub all_seated : ℕ → ℕ → ℕ → List ℕ → Bool
all_seated low high rows seats = length seats == rows && all_from low high seats

abbrev pub lawful : ℕ → ℕ → Listing → Seats → Bool
lawful m q t s =
    (is_box m && nat_lt q m)
    && (all_seated (m - q) m (length t.resources) s.resources && all_seated 0 (m - q) (length t.tasks) s.tasks)
