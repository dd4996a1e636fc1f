-- What a worked example is, and what it says of the definitions.
--
--   written   lines of text, each with its LF
--   Desk      the lines of a resource text and of a task text
--   table_of  the table that they declare
--   Gives     an answer is no fault, and P holds of it
--   Setting   how a table is weighed: under which relation, in a box of how many processors, and with which seats
--   weighed   the plan of a table in a setting, or why there is none
--   Run       what a plan says of a task: its name, its processor, its three bounds and their sum
--   run_of    that of the task of a rank
--   Example   an example with its answer
--   Holds     the definitions give that answer
--   AllHold   they give the answer of each of these examples
use Rattle.std.specs.Prelude.{◌≡◌, ℕ, List, [], ◌∷◌, ◌++◌, Ok, Err, codes, Result, slice_index, slice_index_or}
use Prim.Native.String.{String}
use Rattle.names.specs.declared.fault.NameFault.TheVariants.{BadEntity}
use Rattle.names.specs.Names.{decoded}
use Rattle.tables.specs.declared.fault.Refusal.{Refusal}
use Rattle.tables.specs.Reading.{read_of}
use Rattle.tables.specs.Rows.{Listing}
use Rattle.spreading.specs.Spreading.{loads}
use Rattle.disciplines.specs.Rules.{Relation}
use Rattle.analysis.specs.declared.lateness.Lateness.{Lateness}
use Rattle.analysis.specs.declared.lateness.WeighFault.{WeighFault}
use Rattle.analysis.specs.declared.lateness.WeighFault.TheVariants as fault
use Rattle.analysis.specs.declared.part.Bounds.{Bounds}
use Rattle.analysis.specs.Parts.{row_at, total}
use Rattle.analysis.specs.Weighing.{Planned, no_bounds, weigh_of}
use Rattle.attempts.specs.Placing.{place_of}
use Rattle.planning.specs.Planning.{planner_text}

abbrev pub written : List String → List ℕ
written [] = []
written (l ∷ ls) = codes l ++ 10 ∷ written ls

pub record Desk : Type 0 where
  pub resources : List String
  pub tasks : List String

abbrev pub table_of : Desk → Result Listing Refusal
table_of desk = read_of (written desk.resources) (written desk.tasks)

abbrev pub Gives : {X E : Type 0} → Result X E → (X → Type 0) → Type 0
Gives (Ok x) P = P x
Gives (Err e) P = ⊥

pub data Setting : Type 0 where
  -- with the seats that are found
  found : Relation → ℕ → Setting
  -- with so many synchronisation processors, the resources on these processors and the tasks, by rank, on those
  seated : Relation → ℕ → ℕ → List ℕ → List ℕ → Setting

abbrev pub weighed : Setting → Listing → Result Planned WeighFault
weighed (found may m) t = place_of may m t
weighed (seated may m q sites homes) t = weigh_of may m q t (record { resources = sites; tasks = homes })

pub record Run : Type 0 where
  pub name : List ℕ
  pub home : ℕ
  pub bounds : Bounds
  pub sum : ℕ

abbrev pub run_of : Planned → ℕ → Run
run_of p k =
    record {
      name = (row_at p.table.tasks k).name;
      home = slice_index p.seats.tasks k;
      bounds = slice_index_or p.bounds k no_bounds;
      sum = total (slice_index_or p.bounds k no_bounds);
    }

pub data Example : Type 0 where
  -- the field stands for this name
  decodes : String → String → Example
  -- the field is refused as a name: the `&` at this byte begins no entity
  misspelt : String → ℕ → Example
  -- the loads of a desk's resources, in the order of their text
  loaded : Desk → List ℕ → Example
  -- what the plan of a desk says of the task of this rank
  runs : Desk → Setting → ℕ → Run → Example
  -- a desk has no plan: the task of this rank and this name is late, and how
  late : Desk → Setting → ℕ → String → Lateness → Example
  -- the lines that the planner prints for a desk after these lines of input
  prints : Desk → List String → List String → Example

abbrev pub Holds : Example → Type 0
Holds (decodes field name) = decoded (codes field) ≡ Ok (codes name)
Holds (misspelt field byte) = decoded (codes field) ≡ Err (BadEntity byte)
Holds (loaded desk numbers) = Gives (table_of desk) (λ t. loads t ≡ numbers)
Holds (runs desk setting k run) = Gives (table_of desk) (λ t. Gives (weighed setting t) (λ p. run_of p k ≡ run))
Holds (late desk setting k name lateness) =
    Gives (table_of desk) (λ t. (weighed setting t ≡ Err (fault.Late k lateness)) × ((row_at t.tasks k).name ≡ codes name))
Holds (prints desk input output) = planner_text (written input) (written desk.resources) (written desk.tasks) ≡ written output

abbrev pub AllHold : List Example → Type 0
AllHold [] = Unit {0}
AllHold (e ∷ es) = Holds e × AllHold es
