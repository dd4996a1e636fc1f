use Rattle.std.proofs.Common.{◌≡◌, ℕ, ◌<◌, ◌≤◌, Bool}
use Rattle.spreading.specs.Choosing.{AnswersAs}
use Rattle.spreading.specs.Spreading.{first_best}
use Rattle.spreading.proofs.chart.first_best.Given as goal

abbrev pub invariant-loop-place : goal.invariant-loop-place
invariant-loop-place g l =
    record {
      value : (test : ℕ → ℕ → Bool) → AnswersAs test l.count (goal.F-post g l.beats) → l.best ≡ first_best test l.place;
      within : l.best ≤ l.place;
      some : 0 < l.place → l.best < l.place;
    }
