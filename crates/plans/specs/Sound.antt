-- What holds of every plan.
use Rattle.std.specs.Prelude.{◌≡◌, true, length}
use Rattle.analysis.specs.Weighing.{Planned, keeps}
use Rattle.plans.specs.Empty.{empty_or_lawful}

pub record Sound (p : Planned) : Type 0 where
  -- there is a blocking term and there are three bounds for each task
  pub terms : length p.blocking ≡ length p.table.tasks
  pub bounds : length p.bounds ≡ length p.table.tasks
  -- the plan is empty or its seating is lawful
  pub lawful : empty_or_lawful p.processors p.syncs p.table p.seats ≡ true
  -- the bounds meet the inequalities with the plan's own blocking terms, and add up to at most the deadlines
  pub kept : keeps p.seats p.table.tasks p.blocking p.bounds ≡ true
