use Rattle.std.proofs.Common.{◌≡◌, true, false, eqb, get_or, codes, arith}
use Rattle.std.proofs.lemmas.Bool.{ltb-false}
use Rattle.std.proofs.lemmas.Bool.Decides.{nat_tests}
use Rattle.std.proofs.lemmas.List.{take_rest, length-drop}
use Rattle.entities.specs.Entities.{stands_at}
use Rattle.entities.proofs.Stands.{stands-not, inside, single-some}
use Rattle.entities.proofs.units.front.Goals as goal

pub returns-in-38-6 : goal.returns-in-38-6
returns-in-38-6 c =
    let s = c.args.field.now in
    let no-amp : stands_at 1 (codes "amp;") s ≡ false = stands-not 1 (codes "amp;") s (λ h. let i = inside s 4 (omega arith) in grind arith) in
    let no_lt : stands_at 1 (codes "lt;") s ≡ false = stands-not 1 (codes "lt;") s (λ h. let i = inside s 3 (omega arith) in grind arith) in
    let no-gt : stands_at 1 (codes "gt;") s ≡ false = stands-not 1 (codes "gt;") s (λ h. let i = inside s 3 (omega arith) in grind arith) in
    let no-apos : stands_at 1 (codes "apos;") s ≡ false = stands-not 1 (codes "apos;") s (λ h. let i = inside s 5 (omega arith) in grind arith) in
    let no-quot : stands_at 1 (codes "quot;") s ≡ false = stands-not 1 (codes "quot;") s (λ h. let i = inside s 5 (omega arith) in grind arith) in
    let amper : eqb (get_or s 0 0) 38 ≡ true = grind (arith, nat_tests) in
    simp (amper, no-amp, no_lt, no-gt, no-apos, no-quot)

pub returns-in-len1-up : goal.returns-in-len1-up
returns-in-len1-up c = let one = single-some c.args.field.now (omega (arith, ltb-false)) in grind (arith, nat_tests, take_rest, length-drop)
