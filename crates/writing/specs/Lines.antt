-- Lines of text.
--
--   spaced   fields, with one space between two of them
--   line_of  the line of these fields, with its LF
--   or_dash  what an option holds, as f writes it; a hyphen for none
--   in_turn  what f writes of each, one after another; the first has place k
use Rattle.std.specs.Prelude.{ℕ, ◌+◌, List, [], ◌∷◌, ◌++◌, Some, None, codes, Option}

-- fields, with one space before each
abbrev pub spaced_on : List (List ℕ) → List ℕ
spaced_on [] = []
spaced_on (f ∷ fs) = 32 ∷ f ++ spaced_on fs

abbrev pub spaced : List (List ℕ) → List ℕ
spaced [] = []
spaced (f ∷ fs) = f ++ spaced_on fs

abbrev pub line_of : List (List ℕ) → List ℕ
line_of fields = spaced fields ++ 10 ∷ []

abbrev pub or_dash : {X : Type 0} → (X → List ℕ) → Option X → List ℕ
or_dash f None = codes "-"
or_dash f (Some x) = f x

abbrev pub in_turn : {X : Type 0} → (ℕ → X → List ℕ) → ℕ → List X → List ℕ
in_turn f k [] = []
in_turn f k (x ∷ xs) = f k x ++ in_turn f (k + 1) xs
