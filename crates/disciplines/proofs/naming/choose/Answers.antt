use Rattle.disciplines.proofs.Kept.{chosen-kept}
use Rattle.disciplines.proofs.naming.choose.Goals as goal

pub returns : goal.returns
returns g c =
    record {
      answer = c.find_chosen.ensures;
      rules = chosen-kept (g.H.Holding.may c.args.holding.now) c.args.row.now
          (g.met.H.Holding.first c.args.holding.now) c.find_chosen.result c.find_chosen.ensures;
    }
