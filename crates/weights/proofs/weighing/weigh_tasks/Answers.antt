use Rattle.std.proofs.Common.{◌≡◌, ◌<◌, List, length, vec_items, sym, ap, ◌∙◌, arith}
use Rattle.std.proofs.lemmas.List.{length-map}
use Rattle.disciplines.specs.Rules.{Relation}
use Rattle.tables.specs.Rowed.{row_of}
use Rattle.tables.specs.Rows.{Row}
use Rattle.analysis.specs.Seated.{rows_in, seats_in}
use Rattle.analysis.specs.Seats.{Seats}
use Rattle.weights.proofs.Weighs.{all-told, late-told, weighed-more}
use Rattle.weights.proofs.weighing.weigh_tasks.Goals as goal

pub returns-in-Err : goal.returns-in-Err
returns-in-Err g c =
    let may : Relation = g.D.Holding.may c.args.discipline.now in
    let s : Seats = seats_in c.args.seated in
    let rows : List Row = rows_in c.args.seated in
    let within : c.loop-rank.rank < length rows = omega (arith, ap length c.tasks-rank-end.ensures.value, length-map (vec_items c.args.seated.table.now.tasks) row_of) in
    late-told may s rows c.loop-rank.rank c.blocking_term-blocking.result (length rows) (vec_items c.loop-rank.weights) c.in-Err.lateness
    c.loop-rank.invariant c.blocking_term-blocking.ensures (sym c.in-Err.is ∙ c.in_ok-bounds.ensures) within

pub loop-rank-preserved : goal.loop-rank-preserved
loop-rank-preserved g c =
    let may : Relation = g.D.Holding.may c.args.discipline.now in
    let s : Seats = seats_in c.args.seated in
    weighed-more may s (rows_in c.args.seated) c.loop-rank.rank (vec_items c.loop-rank.weights) _ _ c.in_ok-push-in-Ok.ensures.items
    c.blocking_term-blocking.ensures (sym c.in-Ok.is ∙ c.in_ok-bounds.ensures) c.loop-rank.invariant

pub returns : goal.returns
returns g c =
    let may : Relation = g.D.Holding.may c.args.discipline.now in
    let s : Seats = seats_in c.args.seated in
    let rows : List Row = rows_in c.args.seated in
    let all : length rows ≡ c.loop-rank.rank = omega (arith, ap length c.tasks-rank-end.ensures.value, length-map (vec_items c.args.seated.table.now.tasks) row_of) in
    all-told may s rows c.loop-rank.rank (length rows) (vec_items c.loop-rank.weights) all c.loop-rank.invariant
