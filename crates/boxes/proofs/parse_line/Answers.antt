use Rattle.std.proofs.Common.{◌≡◌, ℕ, ◌+◌, List, length, Some, None, Option, sym, refl, ap, ◌∙◌, subst, arith, Bor, MatchOption}
use Rattle.std.proofs.lemmas.List.{drop_all}
use Rattle.fields.specs.Figures.{at_most, figure_of}
use Rattle.texts.specs.Lines.{reach}
use Rattle.boxes.specs.Boxes.{box_with, figure_part, rule_part, with_count}
use Rattle.boxes.proofs.parse_line.Goals as goal

no-rule : (o : Option ℕ) → with_count o None ≡ None
no-rule None = refl
no-rule (Some m) = refl

-- a line with no space names no discipline
unruled : (line : List ℕ) (after : Option (Bor (List ℕ))) (Rest : Bor (List ℕ) → Type 0) → after ≡ None
    → MatchOption after (reach 32 line ≡ length line) Rest → box_with (figure_part line) (rule_part line) ≡ None
unruled line after Rest none back =
    let whole : reach 32 line ≡ length line = subst (λ (o : Option (Bor (List ℕ))). MatchOption o (reach 32 line ≡ length line) Rest) none back in
    ap (box_with (figure_part line)) (drop_all (reach 32 line + 1) line (omega arith)) ∙ no-rule (at_most 2 16 (figure_of (figure_part line)))

pub returns-in_err-word : goal.returns-in_err-word
returns-in_err-word c = c.from_residual.ensures ∙ sym (unruled c.args.line.now c.cut.result.1 _ c.in_err-word.was c.cut.ensures.back)
