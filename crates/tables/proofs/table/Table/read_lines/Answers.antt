use Rattle.std.proofs.Common.{◌≡◌, ◌+◌, ◌∙◌, length, map, ap, inl, arith}
use Rattle.std.specs.Iterator.Adapters.{enumerate_count, enumerate_source}
use Rattle.std.specs.declared.iter.Enumerate.{Enumerate}
use Rattle.texts.specs.declared.lines.Lines.{Lines}
use Rattle.texts.specs.Lines.{line_parts}
use Rattle.texts.proofs.Numbered.{parts-lines, parts-length}
use Rattle.tables.specs.Listed.{listed}
use Rattle.tables.specs.Reading.{read_lines}
use Rattle.tables.proofs.table.Table.read_lines.Goals as goal
use Rattle.tables.proofs.table.Table.read_lines.Goals.{After-into_iter-before-iterator}

-- the loop begins with the whole text, and counts from 0
whole : (c : After-into_iter-before-iterator) → (enumerate_source {I = Lines} c.into_iter-before-iterator.result).rest ≡ c.args.bytes
whole c = ap (λ (it : Enumerate Lines). (enumerate_source it).rest) c.into_iter-before-iterator.ensures.into_iter_gives ∙ ap (λ (s : Lines). s.rest) c.enumerate-before-items.ensures.source ∙ c.new.ensures

first : (c : After-into_iter-before-iterator) → enumerate_count c.into_iter-before-iterator.result ≡ 0
first c = ap enumerate_count c.into_iter-before-iterator.ensures.into_iter_gives ∙ c.enumerate-before-items.ensures.count

pub loop-before-init-derived : goal.loop-before-init-derived
loop-before-init-derived c =
    let left = ap (λ b. length (line_parts b)) (whole c) in
    let none = first c in
    let few = parts-length c.args.bytes in
    ((tt, tt, inl (omega arith)), tt)

pub loop-before-init : goal.loop-before-init
loop-before-init c =
    (λ i. read_lines c.args.text (first c i + 1) (listed c.args.self.now) (map (λ line. line.now) (line_parts (whole c i))))
    ∙ ap (read_lines c.args.text 1 (listed c.args.self.now)) (parts-lines c.args.bytes)
