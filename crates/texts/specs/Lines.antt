-- The lines of a text, and the pieces of a line.
--
--   reach         how many bytes come before the first separator
--   lines         the lines of a text without their LF; the last may lack it, and an empty text has no line
--   first_line    the first line of a text, without its LF
--   after_line    the text after its first line
--   pieces        what stands between the single spaces of a line
--   has_line      whether a text has a line of that number, counted from 1
--   line_start    the offset at which the line of that number begins
--   StandsFrom    the bytes of a part stand in the whole from that offset on
--   chosen        the one of the two texts that is meant
--   line_at       the line of a place; empty where there is no such line
--   line_address  the address at which the line of that number begins; another where there is no such line
--   line_parts    the lines of a text, each as the part of the text that it is
use Rattle.std.specs.Prelude.{◌≡◌, ℕ, ◌+◌, ◌-◌, Bool, cond, ◌&&◌, List, [], ◌∷◌, length, take, drop, ◌==◌, nat_le, slice_index_or}
use Rattle.std.specs.Borrow.{Bor}
use Rattle.texts.specs.declared.place.Text.{Text}
use Rattle.texts.specs.declared.place.Text.TheVariants.{Resources, Tasks}
use Rattle.texts.specs.declared.place.Place.{Place}

abbrev pub reach : ℕ → List ℕ → ℕ
reach separator [] = 0
reach separator (b ∷ s) = cond (b == separator) 0 (reach separator s + 1)

-- b in front of the first part
abbrev pub onto : ℕ → List (List ℕ) → List (List ℕ)
onto b [] = (b ∷ []) ∷ []
onto b (p ∷ ps) = (b ∷ p) ∷ ps

abbrev pub lines : List ℕ → List (List ℕ)
lines [] = []
lines (b ∷ s) = cond (b == 10) ([] ∷ lines s) (onto b (lines s))

-- what comes before the first LF, and what follows it
abbrev pub first_line : List ℕ → List ℕ
first_line text = take (reach 10 text) text

abbrev pub after_line : List ℕ → List ℕ
after_line text = drop (reach 10 text + 1) text

abbrev pub pieces : List ℕ → List (List ℕ)
pieces [] = [] ∷ []
pieces (b ∷ s) = cond (b == 32) ([] ∷ pieces s) (onto b (pieces s))

abbrev pub has_line : ℕ → List ℕ → Bool
has_line n text = nat_le 1 n && nat_le n (length (lines text))

-- how many bytes these lines take up, each with its LF
abbrev pub extent : List (List ℕ) → ℕ
extent [] = 0
extent (l ∷ ls) = length l + 1 + extent ls

abbrev pub line_start : ℕ → List ℕ → ℕ
line_start n text = extent (take (n - 1) (lines text))

abbrev pub StandsFrom : ℕ → List ℕ → List ℕ → Type 0
StandsFrom start whole part = part ≡ take (length part) (drop start whole)

abbrev pub chosen : {X : Type 0} → X → X → Text → X
chosen resources tasks Resources = resources
chosen resources tasks Tasks = tasks

abbrev pub line_at : List ℕ → List ℕ → Place → List ℕ
line_at resources tasks place = slice_index_or ([] ∷ lines (chosen resources tasks place.text)) place.line []

-- the address so many bytes after another
abbrev pub beyond : ℕ × ℕ → ℕ → ℕ × ℕ
beyond address n = (address.0, address.1 + n)

abbrev pub line_address : Bor (List ℕ) → ℕ → ℕ × ℕ → ℕ × ℕ
line_address text n nowhere = cond (has_line n text.now) (beyond text.ref_ptr (line_start n text.now)) nowhere

-- the lines that stand from an address on, each with its LF
abbrev pub parts_from : ℕ × ℕ → List (List ℕ) → List (Bor (List ℕ))
parts_from address [] = []
parts_from address (l ∷ ls) = record { ref_ptr = address; now = l } ∷ parts_from (beyond address (length l + 1)) ls

abbrev pub line_parts : Bor (List ℕ) → List (Bor (List ℕ))
line_parts text = parts_from text.ref_ptr (lines text.now)
