use Rattle.std.proofs.Common.{vec_items, ◌∙◌, rules, tests}
use Rattle.std.specs.Str.{bytes_eq}
use Rattle.std.proofs.lemmas.Iterator.{YieldsList-from_slice}
use Rattle.std.proofs.lemmas.Iterator.Adapters.{position_from-zero}
use Rattle.std.proofs.lemmas.Iterator.Search.{position_from_yields_List}
use Rattle.names.specs.declared.name.Name.{Name}
use Rattle.names.specs.Spelled.{spelled}
use Rattle.tables.proofs.Places.{place-position}
use Rattle.tables.proofs.table.Table.place_of.Goals as goal

pub returns : goal.returns
returns c =
    let name = spelled c.args.name.now in
    let names = vec_items c.args.self.now.resources in
    let same = λ (m : Name). bytes_eq (spelled m) name in
    position_from_yields_List same _ _ c.position.result c.position.ensures.ran (YieldsList-from_slice names (c.iter.ensures.rest ∙ c.deref.ensures.value)) (λ x b q k. search (rules, tests))
    ∙ position_from-zero same names ∙ place-position spelled name 0 names
