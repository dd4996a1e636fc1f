use Rattle.std.proofs.Common.{◌≡◌, ℕ, ◌-◌, List, length, sym, ap, ◌∙◌, subst, arith}
use Rattle.std.proofs.lemmas.Result.{IfOk-weaker}
use Rattle.spreading.specs.Charted.{Ready, charted}
use Rattle.spreading.specs.Placed.{AllPlaced}
use Rattle.spreading.specs.Spreading.{rounds, seat_next}
use Rattle.spreading.proofs.Rounds.{ready, rounds-more}
use Rattle.spreading.proofs.Turns.{all_placed}
use Rattle.spreading.proofs.seat_all.Goals as goal

pub seat_next-requires : goal.seat_next-requires
seat_next-requires c =
    let ls = c.args.loads.now in
    let fit = ready ls c.args.processors c.args.syncs c.loop.index (omega arith) (omega arith) (omega arith) (omega arith) (λ i. omega (arith, c.type_inv.loads i)) in
    subst (λ first. Ready ls first (charted c.loop.chart)) (sym c.loop.invariant.first) (subst (Ready ls (c.args.processors - c.args.syncs)) (sym c.loop.invariant.seating) fit)

pub loop-preserved : goal.loop-preserved
loop-preserved c =
    record {
      first = c.seat_next.ensures.first ∙ c.loop.invariant.first;
      seating = c.seat_next.ensures.chart ∙ (λ i. seat_next c.args.loads.now (c.loop.invariant.first i) (c.loop.invariant.seating i)) ∙ sym (rounds-more c.args.loads.now c.args.processors c.args.syncs c.loop.index);
    }

pub returns : goal.returns
returns c =
    let ls = c.args.loads.now in
    let end : c.loop.index ≡ length ls = omega arith in
    let seats = ap (λ s. s.seats) c.loop.invariant.seating ∙ ap (λ n. (rounds ls c.args.processors c.args.syncs n).seats) end in
    let Full : List ℕ → Type 0 = AllPlaced ls c.args.processors c.args.syncs in
    record {
      value = IfOk-weaker c.all_seats.result _ _ (λ v e. e ∙ seats) c.all_seats.ensures;
      placed = IfOk-weaker c.all_seats.result _ _ (λ v e. subst Full (sym (e ∙ seats)) (all_placed ls c.args.processors c.args.syncs)) c.all_seats.ensures;
    }
