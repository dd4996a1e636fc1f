use Rattle.std.proofs.Common.{vec_items, ap, ◌∙◌}
use Rattle.std.specs.List.{list_any}
use Rattle.std.specs.Str.{bytes_eq}
use Rattle.names.specs.declared.name.Name.{Name}
use Rattle.names.specs.Spelled.{spelled}
use Rattle.tables.proofs.Places.{has-any}
use Rattle.tables.proofs.table.Table.has_resource.Goals as goal

pub returns : goal.returns
returns c =
    c.contains.ensures.value ∙ ap (list_any (λ (m : Name). bytes_eq (spelled m) (spelled c.args.name.now))) c.deref.ensures.value ∙ has-any spelled (spelled c.args.name.now) (vec_items c.args.self.now.resources)
