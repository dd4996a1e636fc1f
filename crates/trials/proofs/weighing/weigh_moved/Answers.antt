use Rattle.std.proofs.Common.{rules}
use Rattle.std.proofs.lemmas.List.{with_items_is}
use Rattle.trials.proofs.weighing.weigh_moved.Goals as goal

-- the seating gets back as many seats as it lent
pub returns : goal.returns
returns g c = search (rules, with_items_is)
