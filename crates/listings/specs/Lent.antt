-- What is answered for a lent row, and what stands in it afterwards.
--
--   fitted     the length of a text, unless the row is too short for it
--   Told       what a call answers is what the definition wants, unless memory was wanting
--   written    a row with a text at its front; what lies past the text stays
--   row_after  the row after a call: written where the call answers a length, else as it was
use Rattle.std.specs.Prelude.{◌≡◌, ℕ, cond, List, ◌++◌, length, drop, Ok, Err, Result, nat_lt}
use Rattle.listings.specs.declared.fault.ListingFault.{ListingFault}
use Rattle.listings.specs.declared.fault.ListingFault.TheVariants.{ShortRow, Memory}

abbrev pub fitted : List ℕ → ℕ → Result ℕ ListingFault
fitted text room = cond (nat_lt room (length text)) (Err ShortRow) (Ok (length text))

abbrev pub Told : Result ℕ ListingFault → Result ℕ ListingFault → Type 0
Told (Ok n) wanted = wanted ≡ Ok n
Told (Err ShortRow) wanted = wanted ≡ Err ShortRow
Told (Err Memory) wanted = Unit {0}

abbrev pub written : List ℕ → List ℕ → List ℕ
written text row = text ++ drop (length text) row

abbrev pub row_after : Result ℕ ListingFault → List ℕ → List ℕ → List ℕ
row_after (Ok n) text row = written text row
row_after (Err fault) text row = row
