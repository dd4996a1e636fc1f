-- How the resources of a table are seated on the synchronisation processors of a box. Of the box's m processors these
-- are the last q.
--
--   loads      the load of each resource, by place
--   heaviest   the resource that is seated next: the heaviest without a seat, the earlier place on ties
--   lightest   the synchronisation processor that takes it: the least loaded so far, the lowest number on ties
--   Seating    the processor of each resource, whether a round has seated it, and the load of each synchronisation processor
--   seat_next  one round: one resource more has a seat
--   rounds     the seating after n rounds
--   seats_for  the seats of resources with these loads, after one round for each
--   spread_of  the processor of each resource of a table, by place
use Rattle.std.specs.Prelude.{ℕ, zero, suc, ◌+◌, ◌-◌, Bool, true, false, cond, not, ◌&&◌, ◌||◌, List, map, length, replicate, nat_lt, slice_index, slice_index_or, slice_set}
use Rattle.std.specs.List.{range_with_len}
use Rattle.tables.specs.Rows.{Listing}
use Rattle.usage.specs.Usage.{load}

abbrev pub loads : Listing → List ℕ
loads t = map (λ k. load k t.tasks) (range_with_len 0 (length t.resources))

-- the first of the places below n that none of them beats
abbrev pub first_best : (ℕ → ℕ → Bool) → ℕ → ℕ
first_best beats zero = 0
first_best beats (suc n) = cond (beats n (first_best beats n)) n (first_best beats n)

-- whether resource i is to be seated before resource b
abbrev pub goes_first : List ℕ → List Bool → ℕ → ℕ → Bool
goes_first ls seated i b = not (slice_index_or seated i false) && (slice_index_or seated b false || nat_lt (slice_index ls b) (slice_index ls i))

abbrev pub heaviest : List ℕ → List Bool → ℕ
heaviest ls seated = first_best (goes_first ls seated) (length ls)

-- whether synchronisation processor p has less to do than b
abbrev pub lighter : List ℕ → ℕ → ℕ → Bool
lighter sums p b = nat_lt (slice_index sums p) (slice_index sums b)

abbrev pub lightest : List ℕ → ℕ
lightest sums = first_best (lighter sums) (length sums)

pub record Seating : Type 0 where
  pub seats : List ℕ
  pub seated : List Bool
  pub sums : List ℕ

-- `first` is the number of the first synchronisation processor
abbrev pub seat_next : List ℕ → ℕ → Seating → Seating
seat_next ls first s =
    record {
      seats = slice_set s.seats (heaviest ls s.seated) (first + lightest s.sums);
      seated = slice_set s.seated (heaviest ls s.seated) true;
      sums = slice_set s.sums (lightest s.sums) (slice_index s.sums (lightest s.sums) + slice_index ls (heaviest ls s.seated));
    }

-- no round yet: n seats, all at the first synchronisation processor
abbrev pub unseated : ℕ → ℕ → ℕ → Seating
unseated n first q = record { seats = replicate n first; seated = replicate n false; sums = replicate q 0 }

abbrev pub rounds : List ℕ → ℕ → ℕ → ℕ → Seating
rounds ls m q zero = unseated (length ls) (m - q) q
rounds ls m q (suc n) = seat_next ls (m - q) (rounds ls m q n)

abbrev pub seats_for : List ℕ → ℕ → ℕ → List ℕ
seats_for ls m q = (rounds ls m q (length ls)).seats

abbrev pub spread_of : Listing → ℕ → ℕ → List ℕ
spread_of t m q = seats_for (loads t) m q
