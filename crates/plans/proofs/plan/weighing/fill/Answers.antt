use Rattle.std.proofs.Common.{◌≡◌, ℕ, List, vec_items, sym, subst, arith}
use Rattle.std.proofs.lemmas.List.{length-map}
use Rattle.tables.specs.Rows.{Listing}
use Rattle.analysis.specs.Seats.{Seats}
use Rattle.analysis.specs.Weighing.{Planned}
use Rattle.weights.specs.declared.weight.Weight.{Weight}
use Rattle.plans.specs.Sound.{Sound}
use Rattle.weights.specs.Weights.{planned_with}
use Rattle.plans.proofs.plan.weighing.fill.Goals as goal

-- copies make the same plan
same-plan : (m p q : ℕ) (t u : Listing) (s r : Seats) (w : List Weight) → p ≡ q → t ≡ u → s ≡ r → planned_with m p t s w ≡ planned_with m q u r w
same-plan m p q t u s r w syncs rows seats = cc

pub invariant_of-result : goal.invariant_of-result
invariant_of-result c =
    let copied = c.in_ok-clone.ensures.cases in
    let P : Planned → Type 0 = Sound in
    let sound = subst P (sym (same-plan c.args.processors _ _ _ _ _ _ (vec_items c.args.weights) copied.0 c.in_ok-clone-2.ensures.cases copied.1)) c.requires in
    record { complete = omega (arith, c.args.weights.ok.0, sound.terms, length-map (vec_items c.args.weights) (λ w. w.blocking)); lawful = sound.lawful; kept = sound.kept }

pub returns : goal.returns
returns c =
    let copied = c.in_ok-clone.ensures.cases in
    same-plan c.args.processors _ _ _ _ _ _ (vec_items c.args.weights) copied.0 c.in_ok-clone-2.ensures.cases copied.1
