-- What is told of a desk, as text: its plan, or why it has none.
--
--   head_text      the first line of a plan: how many processors the box has, and how many of them serve critical sections
--   at_text        the line of a resource, by its place and its name: the processor that it sits on
--   run_text       the line of a task, by its rank: the processor that it sits on, its three bounds and their sum
--   ats_text       the lines of the resources, in the order of their text
--   runs_text      the lines of the tasks, by rank
--   plan_text      the lines of a plan: its first line, its resources, its tasks
--   lateness_word  how a task is late: its first part that has no bound, or the whole
--   details_of     what a refusal tells after its number, field by field
--   denial_text    the line of a refusal
--   answer_text    the lines of an answer
use Rattle.std.specs.Prelude.{ℕ, List, [], ◌∷◌, ◌++◌, Ok, Err, codes, decimal, slice_index, slice_index_or, Result}
use Rattle.std.specs.Borrow.{Bor}
use Rattle.names.specs.Names.{encoded}
use Rattle.tables.specs.Rows.{Row, Listing}
use Rattle.writing.specs.Lines.{line_of, in_turn}
use Rattle.writing.specs.Naming.{text_name}
use Rattle.analysis.specs.declared.lateness.Lateness.{Lateness}
use Rattle.analysis.specs.declared.lateness.Lateness.TheVariants.{NoBound, Whole}
use Rattle.analysis.specs.declared.part.Bounds.{Bounds}
use Rattle.analysis.specs.declared.part.PartKind.TheVariants.{Before, Critical, After}
use Rattle.analysis.specs.Parts.{total}
use Rattle.analysis.specs.Weighing.{Planned, no_bounds}
use Rattle.plans.specs.declared.plan.Plan.{Plan}
use Rattle.plans.specs.Plans.{planned}
use Rattle.listings.specs.declared.denial.Denial.{Denial}
use Rattle.listings.specs.Denials.{Reason, unread, no_box, unlawful, late, short_row, unknown_task, number_of, reason_of}

abbrev pub head_text : ℕ → ℕ → List ℕ
head_text processors syncs = line_of (codes "plan" ∷ decimal processors ∷ decimal syncs ∷ [])

abbrev pub at_text : List ℕ → ℕ → List ℕ → List ℕ
at_text sites i name = line_of (codes "at" ∷ encoded name ∷ decimal (slice_index sites i) ∷ [])

-- three bounds and their sum, field by field
abbrev pub bound_fields : Bounds → List (List ℕ)
bound_fields x = decimal x.before ∷ decimal x.critical ∷ decimal x.after ∷ decimal (total x) ∷ []

-- the line of a task that sits on this processor and has these bounds
abbrev pub run_line : List ℕ → ℕ → Bounds → List ℕ
run_line name home x = line_of (codes "run" ∷ encoded name ∷ decimal home ∷ bound_fields x)

abbrev pub run_text : List ℕ → List Bounds → ℕ → Row → List ℕ
run_text homes bounds k row = run_line row.name (slice_index homes k) (slice_index_or bounds k no_bounds)

abbrev pub ats_text : List ℕ → Listing → List ℕ
ats_text sites t = in_turn (at_text sites) 0 t.resources

abbrev pub runs_text : List ℕ → List Bounds → Listing → List ℕ
runs_text homes bounds t = in_turn (run_text homes bounds) 0 t.tasks

abbrev pub plan_text : Planned → List ℕ
plan_text p =
    head_text p.processors p.syncs ++ ats_text p.seats.resources p.table ++ runs_text p.seats.tasks p.bounds p.table

abbrev pub lateness_word : Lateness → List ℕ
lateness_word (NoBound Before) = codes "before"
lateness_word (NoBound Critical) = codes "critical"
lateness_word (NoBound After) = codes "after"
lateness_word Whole = codes "whole"

abbrev pub details_of : Reason → List (List ℕ)
details_of (unread notice) = text_name notice.place.text ∷ decimal notice.place.line ∷ []
details_of no_box = []
details_of unlawful = []
details_of (late name lateness) = encoded name ∷ lateness_word lateness ∷ []
details_of short_row = []
details_of unknown_task = []

abbrev pub denial_text : Reason → List ℕ
denial_text reason = line_of (codes "refused" ∷ decimal (number_of reason) ∷ details_of reason)

abbrev pub answer_text : Result (Bor Plan) Denial → List ℕ
answer_text (Ok plan) = plan_text (planned plan.now)
answer_text (Err denial) = denial_text (reason_of denial)
