use Rattle.std.proofs.Common.{sym, ◌∙◌, ap}
use Rattle.std.proofs.lemmas.Iterator.Adapters.{option_map_id}
use Rattle.std.proofs.lemmas.Iterator.Consumers.{YieldsList-from_first, nth_from_yields_List}
use Rattle.texts.specs.Lines.{line_parts}
use Rattle.texts.proofs.lines.nth_line.Goals as goal

pub returns : goal.returns
returns c = sym (option_map_id c.nth.result) ∙ nth_from_yields_List c.nth.result c.nth.new.self c.args.before c.nth.ensures.ran (YieldsList-from_first (λ x. x) (λ s. line_parts s.rest) (line_parts c.args.text) (ap line_parts c.new.ensures))
