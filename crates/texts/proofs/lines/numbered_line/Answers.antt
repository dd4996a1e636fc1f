use Rattle.std.proofs.Common.{◌≡◌, None, MatchOption, slice_get, sym, subst, rules}
use Rattle.texts.specs.Lines.{line_parts}
use Rattle.texts.proofs.Numbered.{IsLine, numbered}
use Rattle.texts.proofs.lines.numbered_line.Goals as goal

pub returns : goal.returns
returns c =
    let found : MatchOption c.checked_sub.result (c.and_then.result ≡ None) (λ k. c.and_then.result ≡ slice_get (line_parts c.args.text) k) = search rules in
    let line = subst (IsLine c.args.text c.args.nowhere c.args.number) (sym c.unwrap_or.ensures) (numbered c.args.text c.args.nowhere c.args.number c.checked_sub.result c.and_then.result c.requires c.checked_sub.ensures found) in
    record { value = line.value; part = line.part; stands = line.stands }
