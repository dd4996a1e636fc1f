-- A plan by what it holds, and the plan that holds nothing.
use Rattle.std.specs.Prelude.{[], vec_items}
use Rattle.tables.specs.Listed.{listed}
use Rattle.tables.specs.Reading.{empty_table}
use Rattle.analysis.specs.Told.{seats_of}
use Rattle.analysis.specs.Weighing.{Planned}
use Rattle.weights.specs.Weights.{bounds_of, terms_of}
use Rattle.plans.specs.declared.plan.Plan.{Plan}

abbrev pub planned : Plan → Planned
planned p =
    record {
      processors = p.processors;
      syncs = p.seating.syncs;
      seats = seats_of p.seating;
      table = listed p.table;
      blocking = terms_of (vec_items p.weights);
      bounds = bounds_of (vec_items p.weights);
    }

abbrev pub empty_plan : Planned
empty_plan =
    record { processors = 0; syncs = 0; seats = record { resources = []; tasks = [] }; table = empty_table; blocking = []; bounds = [] }
