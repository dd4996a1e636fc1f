use Rattle.std.proofs.Common.{rules}
use Rattle.spreading.proofs.Rounds.{map-replicate}
use Rattle.spreading.proofs.chart.Chart.blank.Goals as goal

pub returns-clause-chart : goal.returns-clause-chart
returns-clause-chart c = search (rules, map-replicate)
