use Rattle.std.proofs.Common.{◌≡◌, ℕ, ◌≤◌, true, List, is_ok, vec_items, sym, ap, ◌∙◌, subst, arith}
use Rattle.std.specs.List.{insert}
use Rattle.std.proofs.lemmas.List.{length-map}
use Rattle.std.proofs.lemmas.Bool.{cond_both}
use Rattle.tables.specs.declared.task.Task.{Task}
use Rattle.tables.specs.Rows.{placed, sound, spot}
use Rattle.tables.specs.Rowed.{called, row_of, rows}
use Rattle.tables.proofs.Insertion.{spot-within, rows-inserted}
use Rattle.tables.proofs.Soundness.{sound-task}
use Rattle.tables.proofs.table.Table.insert.Goals as goal
use Rattle.tables.proofs.table.Table.insert.Goals.{After-insert}

-- the tasks with the new one, at the place that was found
grown : (c : After-insert) → rows (insert (vec_items c.args.self.now.tasks) c.spot_of-place.result c.args.task) ≡ placed (row_of c.args.task) (rows (vec_items c.args.self.now.tasks))
grown c =
    ap (λ k. rows (insert (vec_items c.args.self.now.tasks) k c.args.task)) (c.spot_of-place.ensures ∙ ap (λ l. spot c.args.task.period (rows l)) c.as_slice.ensures.value)
    ∙ rows-inserted c.args.task (vec_items c.args.self.now.tasks)

pub insert-requires : goal.insert-requires
insert-requires c =
    let at = c.spot_of-place.ensures ∙ ap (λ l. spot c.args.task.period (rows l)) c.as_slice.ensures.value in
    omega (arith, spot-within c.args.task.period (rows (vec_items c.args.self.now.tasks)), length-map (vec_items c.args.self.now.tasks) row_of, c.args.self.now.tasks.ok.0)

-- whether or not memory was found for it
pub invariant_of-self : goal.invariant_of-self
invariant_of-self c =
    let new = sound-task (called (vec_items c.args.self.now.resources)) (rows (vec_items c.args.self.now.tasks)) c.args.self.now.sound (row_of c.args.task) c.requires.fresh c.requires.known in
    let P : List Task → Type 0 = λ l. sound (called (vec_items c.args.self.now.resources)) (rows l) ≡ true in
    let Q : ℕ → Type 0 = λ n. n ≤ 64 in
    let few = c.args.self.now.few in
    let room = c.requires.room in
    let long = length-map (vec_items c.args.self.now.tasks) row_of in
    let known = c.args.self.now.tasks.ok.0 in
    record {
      few = (
        few.0,
        subst Q (sym c.insert.ensures.len) (cond_both (is_ok c.insert.result) _ _ Q (λ _. omega arith) (λ _. few.1)),
      );
      sound =
          subst P (sym c.insert.ensures.items)
          (cond_both (is_ok c.insert.result) _ _ P (λ _. ap (sound (called (vec_items c.args.self.now.resources))) (grown c) ∙ new) (λ _. c.args.self.now.sound));
    }

pub returns : goal.returns
returns c =
    ap (λ l. record { resources = called (vec_items c.args.self.now.resources); tasks = l })
    (ap rows c.in_ok-insert.ensures.items ∙ grown (goal.at.returns c).After-insert)
