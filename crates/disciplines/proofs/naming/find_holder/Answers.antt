use Rattle.std.proofs.Common.{rules, tests, ◌≡◌, ◌∙◌}
use Rattle.std.proofs.lemmas.Iterator.{YieldsList-from_slice}
use Rattle.std.proofs.lemmas.Iterator.Consumers.{YieldsList-from_filter, YieldsList-from_enumerate, YieldsList-at}
use Rattle.std.specs.Option.{option_map}
use Rattle.disciplines.proofs.Firsts.{first-place}
use Rattle.disciplines.specs.Chosen.{holds_against}
use Rattle.disciplines.proofs.naming.find_holder.Goals as goal

pub returns : goal.returns
returns g c =
    let passes = holds_against (g.H.Holding.may c.args.holding.now) c.args.against in
    let first = first-place passes c.args.row.now _ c.min_by_key.result c.min_by_key.ensures.ran
    (YieldsList-from_filter _ (λ p. passes p.1)
    (YieldsList-at c.filter.ensures.source (YieldsList-from_enumerate (YieldsList-at c.enumerate.ensures.source (YieldsList-from_slice c.args.row.now (cc))) c.enumerate.ensures.count))
    c.filter.ensures.closure (λ x r q k. search (rules, tests))) (λ x r q k. search (rules, tests)) in
    let same : c.map.result ≡ option_map (λ p. p.0) c.min_by_key.result = search rules in
    same ∙ first
