use Rattle.std.proofs.Common.{vec_items, sym, ◌∙◌, arith}
use Rattle.analysis.specs.Told.{seats_of}
use Rattle.plans.proofs.Kept.{totals-short}
use Rattle.plans.proofs.plan.Plan.bounds.Goals as goal

pub write_figures-requires : goal.write_figures-requires
write_figures-requires c =
    let plan = c.args.self.now in
    record {
      room = omega (arith, c.if-row-len.false, c.len.ensures, c.deref.ensures.len);
      small = totals-short (seats_of plan.seating) (vec_items plan.table.tasks) (vec_items plan.weights) c.deref.result.now
          plan.kept (sym plan.weights.ok.0 ∙ plan.complete) c.deref.ensures.value;
    }
