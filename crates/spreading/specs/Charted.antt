-- A chart by its seating, and when it can take one round more.
use Rattle.std.specs.Prelude.{◌≡◌, ℕ, ◌+◌, ◌^◌, ◌<◌, List, is_some, length, map, unwrap_or, vec_items, slice_index}
use Rattle.spreading.specs.declared.chart.Chart.{Chart}
use Rattle.spreading.specs.Spreading.{Seating}

-- a resource that no round has seated counts as seated at the first synchronisation processor
abbrev pub charted : Chart → Seating
charted c =
    record {
      seats = map (λ seat. unwrap_or seat c.first) (vec_items c.seats);
      seated = map is_some (vec_items c.seats);
      sums = vec_items c.sums;
    }

-- there are resources, each has a seat to fill, a processor's number fits a byte, and one load more fits any sum
pub record Ready (ls : List ℕ) (first : ℕ) (s : Seating) : Type 0 where
  pub some : 0 < length ls
  pub seats : length s.seats ≡ length ls
  pub seated : length s.seated ≡ length ls
  pub numbers : first + length s.sums < 256
  pub small : (p : ℕ) → slice_index s.sums p + 18446744073709551616 < 2 ^ 128
