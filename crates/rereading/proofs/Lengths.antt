-- What is printed of the tasks of a table is short enough for a text.
use Rattle.std.proofs.Common.{ℕ, ◌+◌, ◌*◌, ◌≤◌, List, [], ◌∷◌, length, Some, None, codes, Option, arith}
use Rattle.std.specs.List.{AllByRecursion as All}
use Rattle.std.proofs.lemmas.List.{length-append}
use Rattle.names.specs.Names.{encoded}
use Rattle.tables.specs.Rows.{Row}
use Rattle.writing.specs.Lines.{line_of, or_dash, in_turn}
use Rattle.rereading.proofs.Visible.{encoded-short}
use Rattle.rereading.proofs.Figures.{decimal-short}
use Rattle.rereading.proofs.Ranges.{Ranged}
use Rattle.rereading.proofs.TaskLines.{LegibleIn, printed}

guard-short : (g : Option (List ℕ)) → LegibleIn g → length (or_dash encoded g) ≤ 192
guard-short None h = omega arith
guard-short (Some n) h = encoded-short n h

-- a keyword, two names, four figures, six spaces and LF
pub line-short : (r : Row) (g : Option (List ℕ)) → Ranged r → LegibleIn g → length (line_of (codes "task" ∷ printed r g)) ≤ 427
line-short r g f h =
    let n = encoded-short r.name f.legible in
    let b = decimal-short r.before f.before in
    let c = decimal-short r.critical f.critical in
    let a = decimal-short r.after f.after in
    let p = decimal-short r.period f.period in
    let w = guard-short g h in
    simp length-append (omega arith)

-- so many lines are at most so long
pub turns-short : {X : Type 0} (f : ℕ → X → List ℕ) (k : ℕ) (xs : List X) → All (λ x. (j : ℕ) → length (f j x) ≤ 427) xs → length (in_turn f k xs) ≤ 427 * length xs
turns-short f k [] a = omega arith
turns-short f k (x ∷ xs) a =
    let here = a.0 k in
    let more = turns-short f (k + 1) xs a.1 in
    simp length-append (omega arith)
