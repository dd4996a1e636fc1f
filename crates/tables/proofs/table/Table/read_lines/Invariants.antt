use Rattle.std.proofs.Common.{◌≡◌, ◌+◌, map}
use Rattle.std.specs.Iterator.Adapters.{enumerate_count, enumerate_source}
use Rattle.texts.specs.Lines.{lines, line_parts}
use Rattle.tables.specs.Listed.{listed}
use Rattle.tables.specs.Reading.{read_lines}
use Rattle.tables.proofs.table.Table.read_lines.Given as goal

-- the lines that are left complete the table to the whole text's
abbrev pub invariant-loop-before : goal.invariant-loop-before
invariant-loop-before l =
    read_lines l.text (enumerate_count l.before-iterator + 1) (listed l.self) (map (λ line. line.now) (line_parts (enumerate_source l.before-iterator).rest)) ≡ read_lines l.text 1 (listed l.initial.self) (lines l.bytes)
