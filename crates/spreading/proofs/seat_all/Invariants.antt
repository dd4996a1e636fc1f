use Rattle.std.proofs.Common.{◌≡◌, ◌-◌}
use Rattle.spreading.specs.Charted.{charted}
use Rattle.spreading.specs.Spreading.{rounds}
use Rattle.spreading.proofs.seat_all.Given as goal

abbrev pub invariant-loop : goal.invariant-loop
invariant-loop l =
    record { first : l.chart.first ≡ l.processors - l.syncs; seating : charted l.chart ≡ rounds l.loads l.processors l.syncs l.index }
