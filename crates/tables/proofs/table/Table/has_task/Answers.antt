use Rattle.std.proofs.Common.{vec_items, sym, ap, ◌∙◌, rules, tests}
use Rattle.std.specs.Str.{bytes_eq}
use Rattle.std.proofs.lemmas.Iterator.{YieldsList-from_slice}
use Rattle.std.proofs.lemmas.Iterator.Search.{any_from_yields_List}
use Rattle.names.specs.Spelled.{spelled}
use Rattle.tables.specs.declared.task.Task.{Task}
use Rattle.tables.specs.Rows.{has}
use Rattle.tables.proofs.Places.{has-any, row-names}
use Rattle.tables.proofs.table.Table.has_task.Goals as goal

pub returns : goal.returns
returns c =
    let name = spelled c.args.name.now in
    let tasks = vec_items c.args.self.now.tasks in
    any_from_yields_List (λ (t : Task). bytes_eq (spelled t.name) name) _ _ c.any.result c.any.ensures.ran (YieldsList-from_slice tasks (c.iter.ensures.rest ∙ c.deref.ensures.value)) (λ x b q k. search (rules, tests))
    ∙ has-any (λ (t : Task). spelled t.name) name tasks ∙ ap (has name) (sym (row-names tasks))
