use Rattle.std.proofs.Common.{rules, ◌∙◌}
use Rattle.std.specs.List.{filter}
use Rattle.std.proofs.lemmas.Iterator.{YieldsList-from_map, YieldsList-from_slice}
use Rattle.std.proofs.lemmas.Iterator.Consumers.{YieldsList-at, YieldsList-from_filter, sum_by_from_yields_List}
use Rattle.tables.specs.Rowed.{row_of}
use Rattle.tables.specs.declared.task.Task.{Task}
use Rattle.usage.specs.Usage.{share, uses}
use Rattle.usage.proofs.ByTask.{sum-of}
use Rattle.usage.proofs.sum_shares.Goals as goal

pub returns : goal.returns
returns c =
    let is_user = λ (t : Task). uses c.args.resource (row_of t) in
    sum_by_from_yields_List (λ t. share (row_of t)) (filter is_user c.args.tasks.now) c.map.result _ c.sum.ensures.ran
    (YieldsList-from_map _ (λ t. share (row_of t)) (YieldsList-at c.map.ensures.source (YieldsList-from_filter _ is_user (YieldsList-at c.filter.ensures.source (YieldsList-from_slice c.args.tasks.now cc)) c.filter.ensures.closure (λ x b q k. search rules))) c.map.ensures.closure (λ x r q k. search rules))
    ∙ sum-of c.args.resource c.args.tasks.now
