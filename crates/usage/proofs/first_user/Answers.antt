use Rattle.std.proofs.Common.{rules, ◌∙◌}
use Rattle.std.proofs.lemmas.Iterator.{YieldsList-from_slice}
use Rattle.std.proofs.lemmas.Iterator.Search.{position_from_yields_List}
use Rattle.tables.specs.Rowed.{row_of}
use Rattle.usage.specs.Usage.{uses}
use Rattle.usage.proofs.ByTask.{first-of}
use Rattle.usage.proofs.first_user.Goals as goal

pub returns : goal.returns
returns c =
    position_from_yields_List (λ t. uses c.args.resource (row_of t)) _ _ _ c.position.ensures.ran (YieldsList-from_slice c.args.tasks.now cc) (λ x b q k. search rules)
    ∙ first-of c.args.resource c.args.tasks.now
