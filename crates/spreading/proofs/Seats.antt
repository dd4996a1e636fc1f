-- Every resource of a table has one seat, and that is a synchronisation processor.
use Rattle.std.proofs.Common.{◌≡◌, ℕ, zero, suc, ◌+◌, ◌-◌, ◌<◌, ◌≤◌, List, length, get_or, ◌∙◌, arith}
use Rattle.std.proofs.lemmas.List.FromFn.{length-map-range_with_len}
use Rattle.std.proofs.lemmas.List.{get_or-replicate}
use Rattle.tables.specs.Rows.{Listing}
use Rattle.usage.specs.Usage.{load}
use Rattle.spreading.specs.Spreading.{loads, lighter, lightest, rounds, spread_of}
use Rattle.spreading.proofs.FirstBest.{best-within}
use Rattle.spreading.proofs.Rounds.{at_set, seats-length, sums-length}

pub loads-length : (t : Listing) → length (loads t) ≡ length t.resources
loads-length t = length-map-range_with_len (λ k. load k t.tasks) 0 (length t.resources)

pub spread-length : (t : Listing) (m q : ℕ) → length (spread_of t m q) ≡ length t.resources
spread-length t m q = seats-length (loads t) m q (length (loads t)) ∙ loads-length t

module _ (ls : List ℕ) (m q : ℕ) (some : 0 < q) (few : q ≤ m) where
  abbrev Within : ℕ → Type 0
  Within seat = (m - q ≤ seat) × (seat < m)

  seats-within : (n k : ℕ) → k < length ls → Within (get_or (rounds ls m q n).seats k 0)
  seats-within zero k h = rw get_or-replicate (omega arith, omega arith)
  seats-within (suc n) k h =
      let s = rounds ls m q n in
      let long = sums-length ls m q n in
      let taken = best-within (lighter s.sums) (length s.sums) (omega arith) in
      at_set Within s.seats _ k (m - q + lightest s.sums) 0 (omega arith, omega arith) (seats-within n k h)

pub spread-within : (t : Listing) (m q : ℕ) → 0 < q → q ≤ m → (k : ℕ) → k < length t.resources → (m - q ≤ get_or (spread_of t m q) k 0) × (get_or (spread_of t m q) k 0 < m)
spread-within t m q some few k h = seats-within (loads t) m q some few (length (loads t)) k (omega (arith, loads-length t))
