use Rattle.std.proofs.Common.{◌≡◌, length, rules, sym, ap, ◌∙◌, arith}
use Rattle.std.proofs.lemmas.Iterator.{YieldsList-from_map, YieldsList-from_range, items_from_collect}
use Rattle.std.proofs.lemmas.List.{length-map}
use Rattle.tables.specs.Listed.{listed}
use Rattle.usage.specs.Usage.{load}
use Rattle.spreading.proofs.loads.Goals as goal

pub returns : goal.returns
returns c =
    let table = listed c.args.table.now in
    let long : length c.resources.result.now ≡ length table.resources = ap length c.resources.ensures ∙ sym (length-map _ _) in
    let places = YieldsList-from_range 0 (length c.resources.result.now) (length table.resources) c.map.ensures.source (omega arith) in
    items_from_collect c.collect.result c.collect.ensures.ran (YieldsList-from_map _ (λ place. load place table.tasks) places c.map.ensures.closure (λ x r q k. search rules))
