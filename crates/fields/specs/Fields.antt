-- The fields of a line.
--
--   visible         whether a byte may stand in a field
--   all_visible     whether each byte of a piece may stand in a field
--   filled          whether a piece of a line is a field: one or more visible bytes
--   Shape           what a field is by the form of its line, with its bytes
--   shape           a field's shape: its bytes without the reference to the text
--   piece_of        the bytes of a field as they stand in the text
--   name_or_hyphen  a name, or a lone hyphen for none
use Rattle.std.specs.Prelude.{ℕ, Bool, cond, ◌&&◌, List, [], ◌∷◌, length, codes, nat_le}
use Rattle.std.specs.List.{list_all}
use Rattle.std.specs.Str.{bytes_eq}
use Rattle.fields.specs.declared.fields.Field.{Field}
use Rattle.fields.specs.declared.fields.Field.TheVariants.{Word, Figure, Name, Hyphen}

abbrev pub visible : ℕ → Bool
visible b = nat_le 33 b && nat_le b 126

abbrev pub all_visible : List ℕ → Bool
all_visible s = list_all visible s

abbrev pub filled : List ℕ → Bool
filled s = nat_le 1 (length s) && all_visible s

pub data Shape : Type 0 where
  word : List ℕ → Shape
  figure : List ℕ → Shape
  name : List ℕ → Shape
  hyphen : Shape

abbrev pub shape : Field → Shape
shape (Word s) = word s.now
shape (Figure s) = figure s.now
shape (Name s) = name s.now
shape Hyphen = hyphen

abbrev pub piece_of : Shape → List ℕ
piece_of (word s) = s
piece_of (figure s) = s
piece_of (name s) = s
piece_of hyphen = 45 ∷ []

abbrev pub name_or_hyphen : List ℕ → Shape
name_or_hyphen s = cond (bytes_eq s (codes "-")) hyphen (name s)
