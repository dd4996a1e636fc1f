use Rattle.std.proofs.Common.{◌≡◌, Ok, vec_items, subst}
use Rattle.tables.specs.Listed.{listed}
use Rattle.analysis.specs.Told.{seats_of}
use Rattle.analysis.specs.Seats.{Seats}
use Rattle.analysis.specs.Weighing.{weigh_of}
use Rattle.weights.specs.Weights.{planned_with}
use Rattle.plans.proofs.Soundness.{weighed-sound}
use Rattle.plans.proofs.plan.weighing.weigh_table.Goals as goal

-- what was weighed through two slices is the seating
pub fill-requires : goal.fill-requires
fill-requires g c =
    let may = g.D.Holding.may c.args.discipline.now in
    let lent : Seats = record { resources = c.deref.result.now; tasks = c.deref-2.result.now } in
    let same : lent ≡ seats_of c.args.seating.now = cc (c.deref.ensures.value, c.deref-2.ensures.value) in
    let weighed = subst (λ (s : Seats). weigh_of may c.args.processors c.args.seating.now.syncs (listed c.args.table.now) s
    ≡ Ok (planned_with c.args.processors c.args.seating.now.syncs (listed c.args.table.now) s (vec_items c.in_ok-weights.weights))) same
    c.in_ok-weights.ensures
    in
    weighed-sound may c.args.processors c.args.seating.now.syncs (listed c.args.table.now) (seats_of c.args.seating.now) _ weighed
