use Rattle.std.proofs.Common.{◌≡◌, ◌≤◌, List, map, length, take, vec_items, refl, ap, ◌∙◌, rules, arith}
use Rattle.std.proofs.lemmas.Iterator.{YieldsList-from_map, YieldsList-from_slice, items_from_collect}
use Rattle.std.proofs.lemmas.Iterator.Consumers.{YieldsList-at, YieldsList-from_enumerate, YieldsList-from_filter}
use Rattle.std.proofs.lemmas.List.{length-map}
use Rattle.std.proofs.lemmas.Result.{IfOk-weaker}
use Rattle.std.specs.List.{enumerate_from, filter}
use Rattle.std.specs.Result.{IfOk}
use borrow.Author.Tests.{tests}
use Rattle.bounds.specs.declared.term.Term.{Term}
use Rattle.bounds.specs.Interference.{interference}
use Rattle.tables.specs.Rowed.{row_of}
use Rattle.analysis.specs.Seated.{rows_in, seats_in}
use Rattle.analysis.proofs.Terms.{few, gathered, sharing, term_at}
use Rattle.analysis.proofs.seated.Seated.terms.Goals as goal

module _ (c : goal.After-collect) where
  -- the terms of the tasks so far that share the processor
  abbrev found : List Term
  found =
      map (term_at (seats_in c.args.self) (rows_in c.args.self) c.args.kind c.args.rank)
      (filter (sharing (seats_in c.args.self) (rows_in c.args.self) c.args.kind c.args.rank)
      (enumerate_from 0 (take c.args.rank (vec_items c.args.self.table.now.tasks))))

  collected : IfOk c.collect.result (λ terms. vec_items terms ≡ found)
  collected =
      items_from_collect c.collect.result c.collect.ensures.ran
      (YieldsList-from_map _ (term_at (seats_in c.args.self) (rows_in c.args.self) c.args.kind c.args.rank)
      (YieldsList-at c.map.ensures.source
      (YieldsList-from_filter _ (sharing (seats_in c.args.self) (rows_in c.args.self) c.args.kind c.args.rank)
      (YieldsList-at c.filter.ensures.source
      (YieldsList-from_enumerate (YieldsList-from_slice (take c.args.rank (vec_items c.args.self.table.now.tasks)) (cc)) c.enumerate.ensures.count))
      c.filter.ensures.closure (λ x b q k. search (rules, tests))))
      c.map.ensures.closure (λ x r q k. search rules))

  within : c.args.rank ≤ length (vec_items c.args.self.table.now.tasks)
  within = omega (arith, length-map (vec_items c.args.self.table.now.tasks) row_of, c.requires)

pub returns-clause-taken : goal.returns-clause-taken
returns-clause-taken c =
    IfOk-weaker c.collect.result _ _
    (λ terms e t. ap (λ (xs : List Term). interference xs t) e
    ∙ gathered (seats_in c.args.self) (rows_in c.args.self) c.args.kind c.args.rank (vec_items c.args.self.table.now.tasks) c.args.rank refl (within c) t)
    (collected c)

pub returns-clause-few : goal.returns-clause-few
returns-clause-few c =
    IfOk-weaker c.collect.result _ _
    (λ terms e. omega (arith, ap length e, few (seats_in c.args.self) (rows_in c.args.self) c.args.kind c.args.rank (vec_items c.args.self.table.now.tasks) c.args.rank (within c), terms.ok))
    (collected c)
