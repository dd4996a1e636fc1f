use Rattle.std.proofs.Common.{◌≡◌, ℕ, Bool, cond, length, vec_items, ap, ◌∙◌, rules, arith}
use Rattle.std.proofs.lemmas.Iterator.{YieldsList-from_map, YieldsList-from_range}
use Rattle.std.proofs.lemmas.Iterator.Consumers.{YieldsList-at, YieldsList-from_filter, max_from_yields_List}
use Rattle.std.proofs.lemmas.List.{length-map}
use borrow.Author.Tests.{tests}
use Rattle.tables.specs.Rowed.{row_of}
use Rattle.analysis.specs.Blocking.{blocks, greatest}
use Rattle.analysis.specs.Parts.{row_at}
use Rattle.analysis.specs.Seated.{rows_in, seats_in}
use Rattle.analysis.proofs.Greatest.{best-or-zero, greatest-range}
use Rattle.analysis.proofs.seated.Seated.greatest_blocking.Goals as goal

pub returns : goal.returns
returns g c =
    let holds : ℕ → Bool = blocks (g.D.Holding.may c.args.discipline.now) (seats_in c.args.self) (rows_in c.args.self) c.args.rank in
    let long : ℕ → ℕ = λ j. (row_at (rows_in c.args.self) j).critical in
    let n : ℕ = length c.tasks.result.now in
    let counted : n ≡ length (rows_in c.args.self) =
    omega (arith, ap length c.tasks.ensures.value, length-map (vec_items c.args.self.table.now.tasks) row_of)
    in
    best-or-zero c.max.result _
    (max_from_yields_List c.map.result c.max.result c.max.ensures.ran
    (YieldsList-from_map _ long
    (YieldsList-at c.map.ensures.source
    (YieldsList-from_filter _ holds (YieldsList-from_range 0 n n (cc) (omega arith)) c.filter.ensures.closure (λ x b q k. search (rules, tests))))
    c.map.ensures.closure (λ x r q k. search rules)))
    ∙ greatest-range holds long n
    ∙ ap (greatest (λ j. cond (holds j) (long j) 0)) counted
