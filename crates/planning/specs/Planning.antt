-- What the program `planner` prints.
--
--   relation_of   which section may hold against which, by the word of a box line
--   placed_text   the lines of the plan that is found for a table, or the line of the refusal
--   ruled_text    the same for a box as its line declares it
--   planner_text  the lines for an input and two texts: the box line is checked first, then the texts, then seats are sought
use Rattle.std.specs.Prelude.{ℕ, List, [], Some, None, Ok, Err, Option, Result}
use Rattle.disciplines.specs.Rules.{Relation}
use Rattle.disciplines.specs.Supplied.{always, under_ceiling}
use Rattle.tables.specs.declared.fault.Refusal.{Refusal}
use Rattle.tables.specs.Reading.{read_of}
use Rattle.tables.specs.Refusals.{notice_of}
use Rattle.tables.specs.Rows.{Listing}
use Rattle.analysis.specs.declared.lateness.WeighFault.{WeighFault}
use Rattle.analysis.specs.Weighing.{Planned}
use Rattle.attempts.specs.Placing.{place_of}
use Rattle.boxes.specs.declared.BoxLine.{BoxLine}
use Rattle.boxes.specs.declared.Rule.{Rule}
use Rattle.boxes.specs.declared.Rule.TheVariants.{Ceiling, Whole}
use Rattle.boxes.specs.Boxes.{box_of}
use Rattle.listings.specs.Denials.{Reason, denied_of, no_box, unread}
use Rattle.listings.specs.Listings.{denial_text, plan_text}

abbrev pub relation_of : Rule → Relation
relation_of Ceiling = under_ceiling
relation_of Whole = always

-- nothing is printed where there is no reason, which no table has
abbrev pub reason_text : Option Reason → List ℕ
reason_text None = []
reason_text (Some reason) = denial_text reason

-- the lines of an answer for a table
abbrev pub outcome_text : Listing → Result Planned WeighFault → List ℕ
outcome_text t (Ok plan) = plan_text plan
outcome_text t (Err fault) = reason_text (denied_of t fault)

abbrev pub placed_text : Relation → ℕ → Listing → List ℕ
placed_text may m t = outcome_text t (place_of may m t)

abbrev pub ruled_text : BoxLine → Listing → List ℕ
ruled_text declared t = placed_text (relation_of declared.rule) declared.processors t

-- the lines for two texts as they are read: their table's, or the line of their refusal
abbrev pub table_text : BoxLine → Result Listing Refusal → List ℕ
table_text declared (Ok t) = ruled_text declared t
table_text declared (Err refusal) = denial_text (unread (notice_of refusal))

-- the lines for a box, where there is one
abbrev pub box_text : Option BoxLine → List ℕ → List ℕ → List ℕ
box_text None resources tasks = denial_text no_box
box_text (Some declared) resources tasks = table_text declared (read_of resources tasks)

abbrev pub planner_text : List ℕ → List ℕ → List ℕ → List ℕ
planner_text input resources tasks = box_text (box_of input) resources tasks
