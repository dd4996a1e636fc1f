use Rattle.std.proofs.Common.{rules, tests, ◌≡◌, ◌∙◌, sym, subst}
use Rattle.std.proofs.lemmas.Iterator.{YieldsList, YieldsList-from_slice}
use Rattle.std.proofs.lemmas.Iterator.Consumers.{YieldsList-from_enumerate, YieldsList-at}
use Rattle.std.specs.List.{enumerate_from}
use Rattle.std.specs.Option.{option_map}
use Rattle.disciplines.proofs.Firsts.{all-pass, first-place}
use Rattle.disciplines.specs.Chosen.{any_one}
use Rattle.disciplines.proofs.naming.find_best.Goals as goal

pub returns-clause-first : goal.returns-clause-first
returns-clause-first c =
    let first = first-place any_one c.args.row.now _ c.min_by_key.result c.min_by_key.ensures.ran
    (subst (YieldsList _ _ _) (sym (all-pass (enumerate_from 0 c.args.row.now)))
    (YieldsList-from_enumerate (YieldsList-at c.enumerate.ensures.source (YieldsList-from_slice c.args.row.now (cc))) c.enumerate.ensures.count))
    (λ x r q k. search (rules, tests)) in
    let same : c.map.result ≡ option_map (λ p. p.0) c.min_by_key.result = search rules in
    same ∙ first
