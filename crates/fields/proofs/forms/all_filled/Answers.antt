use Rattle.std.proofs.Common.{rules, tests, sym, ◌∙◌}
use Rattle.std.proofs.lemmas.Iterator.{YieldsList-from_slice}
use Rattle.std.proofs.lemmas.Iterator.Search.{all_from_yields_List}
use Rattle.std.proofs.lemmas.List.Folds.{list_all-map}
use Rattle.fields.specs.Fields.{filled}
use Rattle.fields.proofs.Held.{bytes}
use Rattle.fields.proofs.forms.all_filled.Goals as goal

pub returns : goal.returns
returns c =
    all_from_yields_List (λ p. filled (bytes p)) _ _ _ c.all.ensures.ran (YieldsList-from_slice c.args.pieces.now cc) (λ x b q k. search (rules, tests))
    ∙ sym (list_all-map filled bytes c.args.pieces.now)
