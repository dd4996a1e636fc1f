-- The table of the worked examples.
--
--   run            a task's name, its processor, its three bounds and their sum
--   desk_with      four tasks that share two resources, with this line for the second task
--   desk           the same with the line that it has in the folder examples/desk
--   pair_with      two tasks that share one resource, with this line for the first task
--   examples       the table
--   Examples-hold  the definitions give the answer of each of its entries
use Rattle.std.specs.Prelude.{ℕ, List, [], ◌∷◌, codes}
use Prim.Native.String.{String}
use Rattle.disciplines.specs.Supplied.{always, under_ceiling}
use Rattle.analysis.specs.declared.lateness.Lateness.TheVariants.{NoBound, Whole}
use Rattle.analysis.specs.declared.part.PartKind.TheVariants.{Before, Critical}
use Rattle.worked_examples.specs.Examples.{AllHold, Desk, Example, Run, decodes, found, late, loaded, misspelt, prints, runs, seated}

abbrev pub run : String → ℕ → ℕ → ℕ → ℕ → ℕ → Run
run name home b c a sum = record { name = codes name; home = home; bounds = record { before = b; critical = c; after = a }; sum = sum }

abbrev pub desk_with : String → Desk
desk_with hedge =
    record {
      resources = "resource surface" ∷ "resource P&amp;L" ∷ [];
      tasks = "task quote 2 1 2 10 surface" ∷ hedge ∷ "task book 4 3 2 40 P&amp;L" ∷ "task log 12 0 0 50 -" ∷ [];
    }

abbrev pub desk : Desk
desk = desk_with "task hedge 3 2 1 20 P&amp;L"

abbrev pub pair_with : String → Desk
pair_with a = record { resources = "resource r" ∷ []; tasks = a ∷ "task b 0 3 0 9 r" ∷ [] }

abbrev pub examples : List Example
examples =
    -- an entity is decoded once, and a bare `&` is none
    decodes "P&amp;amp;L" "P&amp;L"
    ∷ misspelt "P&L" 2
    -- in millionths: 1 tick in 10; 2 in 20 and 3 in 40
    ∷ loaded desk (100000 ∷ 175000 ∷ [])
    -- the plan that is found in a box of three
    ∷ runs desk (found under_ceiling 3) 0 (run "quote" 0 2 1 2 5)
    ∷ runs desk (found under_ceiling 3) 1 (run "hedge" 0 7 6 5 18)
    ∷ runs desk (found under_ceiling 3) 2 (run "book" 0 16 6 10 32)
    ∷ runs desk (found under_ceiling 3) 3 (run "log" 1 12 0 0 12)
    ∷ prints desk ("3 ceiling" ∷ [])
    ("plan 3 1"
    ∷ "at surface 2"
    ∷ "at P&amp;L 2"
    ∷ "run quote 0 2 1 2 5"
    ∷ "run hedge 0 7 6 5 18"
    ∷ "run book 0 16 6 10 32"
    ∷ "run log 1 12 0 0 12"
    ∷ [])
    -- where every section may hold against every other, the longest of the others blocks the first task
    ∷ runs desk (seated always 3 1 (2 ∷ 2 ∷ []) (0 ∷ 0 ∷ 0 ∷ 1 ∷ [])) 0 (run "quote" 0 2 4 2 8)
    -- the last task finds no time beside the others
    ∷ late desk (seated under_ceiling 3 1 (2 ∷ 2 ∷ []) (0 ∷ 0 ∷ 0 ∷ 0 ∷ [])) 3 "log" (NoBound Before)
    -- bounds that add up to the period fit, and are too much for a period of one tick less
    ∷ runs (desk_with "task hedge 3 2 1 18 P&amp;L") (seated under_ceiling 3 1 (2 ∷ 2 ∷ []) (0 ∷ 0 ∷ 0 ∷ 1 ∷ [])) 1 (run "hedge" 0 7 6 5 18)
    ∷ late (desk_with "task hedge 3 2 1 17 P&amp;L") (seated under_ceiling 3 1 (2 ∷ 2 ∷ []) (0 ∷ 0 ∷ 0 ∷ 1 ∷ [])) 1 "hedge" Whole
    -- of two sections, of 1 tick and of 3, each reckons with the other
    ∷ runs (pair_with "task a 0 1 0 4 r") (seated always 2 1 (1 ∷ []) (0 ∷ 0 ∷ [])) 0 (run "a" 0 0 4 0 4)
    ∷ runs (pair_with "task a 0 1 0 4 r") (seated always 2 1 (1 ∷ []) (0 ∷ 0 ∷ [])) 1 (run "b" 0 0 4 0 4)
    ∷ late (pair_with "task a 0 1 0 3 r") (seated always 2 1 (1 ∷ []) (0 ∷ 0 ∷ [])) 0 "a" (NoBound Critical)
    ∷ []

abbrev pub Examples-hold : Type 0
Examples-hold = AllHold examples
