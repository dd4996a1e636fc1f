use Rattle.std.proofs.Common.{vec_items, arith, rules}
use Rattle.std.proofs.lemmas.List.{set-set, set-get_or}
use Rattle.disciplines.specs.Rules.{Relation}
use Rattle.analysis.specs.Seats.{Seats}
use Rattle.trials.proofs.Sums.{all-weighed, sum-small, sum_told}
use Rattle.trials.proofs.weighing.weigh_changed.Goals as goal

pub index-requires : goal.index-requires
index-requires g c =
    let may : Relation = g.D.Holding.may c.args.discipline.now in
    let s : Seats = record { resources = c.args.sites.now; tasks = c.bytes.result.now } in
    omega (arith, all-weighed may c.args.processors c.args.syncs c.args.table.now s (vec_items c.in_ok-weights.weights) c.in_ok-weights.ensures)

pub overflow_cast-result : goal.overflow_cast-result
overflow_cast-result g c =
    let may : Relation = g.D.Holding.may c.args.discipline.now in
    let s : Seats = record { resources = c.args.sites.now; tasks = c.bytes.result.now } in
    omega (
      arith,
      c.total.ensures,
      sum-small may c.args.processors c.args.syncs c.args.table.now s (vec_items c.in_ok-weights.weights) c.in_ok-weights.ensures
          c.args.task c.requires c.index.result.now c.index.ensures,
    )

-- the byte that stood there is put over the new one
pub returns-clause-same : goal.returns-clause-same
returns-clause-same g c = search (rules, set-set, set-get_or)

pub returns-clause-answer : goal.returns-clause-answer
returns-clause-answer g c =
    let may : Relation = g.D.Holding.may c.args.discipline.now in
    let s : Seats = record { resources = c.args.sites.now; tasks = c.bytes.result.now } in
    let told = sum_told may c.args.processors c.args.syncs c.args.table.now s (vec_items c.in_ok-weights.weights) c.in_ok-weights.ensures
    c.args.task c.requires c.index.result.now c.index.ensures c.total.result c.total.ensures in
    search (rules, told)
