-- Figures: numbers as a text writes them.
--
--   is_digit   whether a byte is a decimal digit
--   digits     the number that digits write after those that wrote n; none where a byte is no digit
--   slim       1 to 8 bytes, and a leading zero only alone
--   figure_of  the number that 1 to 8 digits with no needless leading zero write
--   at_most    a number from low to high
use Rattle.std.specs.Prelude.{ℕ, ◌+◌, ◌-◌, ◌*◌, Bool, cond, not, ◌&&◌, ◌||◌, List, [], ◌∷◌, length, Some, None, Option, ◌==◌, nat_le, slice_index}

abbrev pub is_digit : ℕ → Bool
is_digit d = nat_le 48 d && nat_le d 57

abbrev pub digits : ℕ → List ℕ → Option ℕ
digits n [] = Some n
digits n (d ∷ s) = cond (is_digit d) (digits (n * 10 + (d - 48)) s) None

abbrev pub slim : List ℕ → Bool
slim s = (nat_le 1 (length s) && nat_le (length s) 8) && (length s == 1 || not (slice_index s 0 == 48))

abbrev pub figure_of : List ℕ → Option ℕ
figure_of s = cond (slim s) (digits 0 s) None

abbrev pub at_most : ℕ → ℕ → Option ℕ → Option ℕ
at_most low high None = None
at_most low high (Some n) = cond (nat_le low n && nat_le n high) (Some n) None
