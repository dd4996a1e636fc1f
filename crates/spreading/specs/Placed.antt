-- No resource is left out: each sits where a round put it.
use Rattle.std.specs.Prelude.{◌≡◌, ℕ, ◌+◌, ◌-◌, ◌<◌, List, length, slice_index_or}
use Rattle.spreading.specs.Spreading.{heaviest, lightest, rounds}

-- the resource whose turn it is after n rounds
abbrev pub turn : List ℕ → ℕ → ℕ → ℕ → ℕ
turn ls m q n = heaviest ls (rounds ls m q n).seated

-- the processor that takes it
abbrev pub taker : List ℕ → ℕ → ℕ → ℕ → ℕ
taker ls m q n = m - q + lightest (rounds ls m q n).sums

-- resource k had its turn in a round, and sits on the processor that took it then
pub record Placed (ls : List ℕ) (m q : ℕ) (seats : List ℕ) (k : ℕ) : Type 0 where
  pub round : ℕ
  pub early : round < length ls
  pub turn : turn ls m q round ≡ k
  pub seat : slice_index_or seats k 0 ≡ taker ls m q round

abbrev pub AllPlaced : List ℕ → ℕ → ℕ → List ℕ → Type 0
AllPlaced ls m q seats = (k : ℕ) → k < length ls → Placed ls m q seats k
