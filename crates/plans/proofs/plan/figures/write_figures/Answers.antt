use Rattle.std.proofs.Common.{List, [], ◌∷◌, sym, ap, ◌∙◌, arith}
use Rattle.std.proofs.lemmas.List.{get_or-map, length-map}
use Rattle.analysis.specs.declared.part.Bounds.{Bounds}
use Rattle.analysis.specs.Weighing.{no_bounds}
use Rattle.weights.specs.declared.weight.Weight.{Weight}
use Rattle.weights.specs.Weights.{bounds_of}
use Rattle.plans.specs.Figures.{figures}
use Rattle.plans.proofs.Writes.{sofar-more}
use Rattle.plans.proofs.plan.figures.write_figures.Goals as goal

pub loop-i-preserved : goal.loop-i-preserved
loop-i-preserved c =
    let weights : List Weight = c.args.weights.now in
    let its = get_or-map (λ (w : Weight). w.bounds) weights c.loop-i.i (record { blocking = 0; bounds = no_bounds }) no_bounds c.loop-i-test.true in
    sofar-more (bounds_of weights) c.args.row.now c.loop-i.row c.copy_from_slice.new.self c.loop-i.i _
    (omega (arith, length-map weights (λ w. w.bounds))) (omega arith) c.loop-i.invariant
    (c.copy_from_slice.ensures.after ∙ c.figures_of.ensures ∙ ap (λ (b : Bounds). figures (b ∷ [])) (sym its))
