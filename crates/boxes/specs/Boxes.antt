-- The box line: the number of processors, one space, and the word of a discipline.
--
--   rule_of   the discipline that a word names
--   box_with  the box of a figure from 2 to 16 and a word
--   box_of    the box that the first line of an input declares; none where it is not in form
use Rattle.std.specs.Prelude.{ℕ, ◌+◌, cond, List, take, drop, Some, None, codes, Option}
use Rattle.std.specs.Str.{bytes_eq}
use Rattle.fields.specs.Figures.{at_most, figure_of}
use Rattle.texts.specs.Lines.{first_line, reach}
use Rattle.boxes.specs.declared.BoxLine.{BoxLine}
use Rattle.boxes.specs.declared.Rule.{Rule}
use Rattle.boxes.specs.declared.Rule.TheVariants.{Ceiling, Whole}

abbrev pub rule_of : List ℕ → Option Rule
rule_of word = cond (bytes_eq word (codes "ceiling")) (Some Ceiling) (cond (bytes_eq word (codes "whole")) (Some Whole) None)

-- a box, where there is a rule for it
abbrev pub with_rule : ℕ → Option Rule → Option BoxLine
with_rule m None = None
with_rule m (Some rule) = Some (record { processors = m; rule = rule })

-- a box, where there is a number of processors
abbrev pub with_count : Option ℕ → Option Rule → Option BoxLine
with_count None rule = None
with_count (Some m) rule = with_rule m rule

abbrev pub box_with : List ℕ → List ℕ → Option BoxLine
box_with figure word = with_count (at_most 2 16 (figure_of figure)) (rule_of word)

-- what stands before the first space of a line, and what follows it
abbrev pub figure_part : List ℕ → List ℕ
figure_part line = take (reach 32 line) line

abbrev pub rule_part : List ℕ → List ℕ
rule_part line = drop (reach 32 line + 1) line

abbrev pub box_of : List ℕ → Option BoxLine
box_of input = box_with (figure_part (first_line input)) (rule_part (first_line input))
