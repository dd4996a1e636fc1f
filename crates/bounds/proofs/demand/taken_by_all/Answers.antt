use Rattle.std.proofs.Common.{rules, ◌≡◌, ◌∙◌, arith}
use Rattle.std.proofs.lemmas.Iterator.{YieldsList-from_map, YieldsList-from_slice}
use Rattle.std.proofs.lemmas.Iterator.Consumers.{YieldsList-at, fits_by_from_yields_list}
use Rattle.std.specs.List.{sum_by}
use Rattle.bounds.specs.Interference.{taken}
use Rattle.bounds.proofs.Totals.{interference-sums, interference-under}
use Rattle.bounds.proofs.demand.taken_by_all.Goals as goal

pub sum-requires-clause-fits : goal.sum-requires-clause-fits
sum-requires-clause-fits c =
    fits_by_from_yields_list (λ x. taken x c.args.t) c.args.terms.now c.map.result _
    (YieldsList-from_map _ (λ x. taken x c.args.t) (YieldsList-at c.map.ensures.source (YieldsList-from_slice c.args.terms.now (cc))) c.map.ensures.closure (λ x r q k. search rules))
    (omega (arith, interference-under c.args.terms.now c.args.t c.requires.counted, c.requires.few))

pub returns : goal.returns
returns c =
    let total : c.sum.result ≡ sum_by (λ x. taken x c.args.t) c.args.terms.now = search rules in
    record {
      value = total ∙ interference-sums c.args.terms.now c.args.t;
      bound = omega (arith, total, interference-under c.args.terms.now c.args.t c.requires.counted, c.requires.few);
    }
