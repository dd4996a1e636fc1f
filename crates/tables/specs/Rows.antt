-- The rows of a table.
--
--   Row       a task: its decoded name, its lengths, its period, and the place of its resource
--   Listing   a table: the names of its resources in the order of their text, and its tasks by rank
--   has       whether a name stands among others
--   place_of  the place of a name among others, counted from 0
--   placed    a task among others: before the first of a greater period
--   distinct  whether no two names are the same
--   rising    whether no task has a greater period than one after it
--   known     whether each task's resource is one of the first n
--   sound     what holds of every table
use Rattle.std.specs.Prelude.{ℕ, ◌+◌, Bool, true, false, cond, not, ◌&&◌, ◌||◌, List, [], ◌∷◌, map, length, Some, None, Option, nat_le, nat_lt}
use Rattle.std.specs.Str.{bytes_eq}

pub record Row : Type 0 where
  pub name : List ℕ
  pub before : ℕ
  pub critical : ℕ
  pub after : ℕ
  pub period : ℕ
  pub resource : Option ℕ

pub record Listing : Type 0 where
  pub resources : List (List ℕ)
  pub tasks : List Row

-- the names of tasks
abbrev pub row_names : List Row → List (List ℕ)
row_names ts = map (λ r. r.name) ts

abbrev pub has : List ℕ → List (List ℕ) → Bool
has n [] = false
has n (m ∷ ms) = bytes_eq m n || has n ms

-- the place of the name, where the first of the others has place i
abbrev pub place_from : ℕ → List ℕ → List (List ℕ) → Option ℕ
place_from i n [] = None
place_from i n (m ∷ ms) = cond (bytes_eq m n) (Some i) (place_from (i + 1) n ms)

abbrev pub place_of : List ℕ → List (List ℕ) → Option ℕ
place_of n ms = place_from 0 n ms

abbrev pub placed : Row → List Row → List Row
placed r [] = r ∷ []
placed r (x ∷ xs) = cond (nat_le x.period r.period) (x ∷ placed r xs) (r ∷ x ∷ xs)

-- how many rows come before a task of that period
abbrev pub spot : ℕ → List Row → ℕ
spot p [] = 0
spot p (x ∷ xs) = cond (nat_le x.period p) (spot p xs + 1) 0

abbrev pub distinct : List (List ℕ) → Bool
distinct [] = true
distinct (n ∷ ns) = not (has n ns) && distinct ns

-- no period among the rows is less than p
abbrev pub leads : ℕ → List Row → Bool
leads p [] = true
leads p (x ∷ xs) = nat_le p x.period && leads p xs

abbrev pub rising : List Row → Bool
rising [] = true
rising (x ∷ xs) = leads x.period xs && rising xs

-- a place is one of the first n
abbrev pub inside : ℕ → Option ℕ → Bool
inside n None = true
inside n (Some i) = nat_lt i n

abbrev pub known : ℕ → List Row → Bool
known n [] = true
known n (x ∷ xs) = inside n x.resource && known n xs

abbrev pub sound : List (List ℕ) → List Row → Bool
sound rs ts = distinct rs && (distinct (row_names ts) && (rising ts && known (length rs) ts))
