use Rattle.std.proofs.Common.{arith}
use Rattle.analysis.proofs.judging.least_ticks.Goals as goal

-- a bound is within the limit, which has 32 bits
pub map-requires : goal.map-requires
map-requires c ticks found _ _ =
    let within = (c.least_bound.ensures.exact.some-least ticks found).meets.within in
    omega (arith, within, c.from.ensures)
