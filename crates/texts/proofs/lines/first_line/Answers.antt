use Rattle.std.proofs.Common.{◌∷◌, sym, refl, ◌∙◌}
use Rattle.texts.specs.Lines.{lines}
use Rattle.texts.proofs.Cuts.{left-after, lines_cut, parts-cut}
use Rattle.texts.proofs.lines.first_line.Goals as goal

pub returns-clause-cuts : goal.returns-clause-cuts
returns-clause-cuts c =
    let left = left-after c.args.text c.unwrap_or.result _ c.cut.result.1 c.unwrap_or.ensures refl c.cut.ensures.back c.cut.ensures.after in
    lines_cut c.args.text.now c.requires ∙ (λ i. sym c.cut.ensures.front i ∷ lines (sym left.0 i))

pub returns-clause-parts : goal.returns-clause-parts
returns-clause-parts c =
    let left = left-after c.args.text c.unwrap_or.result _ c.cut.result.1 c.unwrap_or.ensures refl c.cut.ensures.back c.cut.ensures.after in
    parts-cut c.args.text c.requires ∙ (λ i. record { ref_ptr = sym c.cut.ensures.start i; now = sym c.cut.ensures.front i } ∷ left.1 i)
