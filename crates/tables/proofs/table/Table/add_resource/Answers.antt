use Rattle.std.proofs.Common.{◌≡◌, ℕ, ◌≤◌, true, List, is_ok, vec_items, sym, ap, ◌∙◌, subst, arith}
use Rattle.std.proofs.lemmas.List.{map_push}
use Rattle.std.proofs.lemmas.Bool.{cond_both}
use Rattle.names.specs.declared.name.Name.{Name}
use Rattle.names.specs.Spelled.{spelled}
use Rattle.tables.specs.Rows.{sound}
use Rattle.tables.specs.Rowed.{called, rows}
use Rattle.tables.proofs.Soundness.{sound-resource}
use Rattle.tables.proofs.table.Table.add_resource.Goals as goal

-- whether or not memory was found for it
pub invariant_of-self : goal.invariant_of-self
invariant_of-self c =
    let new = sound-resource (called (vec_items c.args.self.now.resources)) (rows (vec_items c.args.self.now.tasks)) c.args.self.now.sound (spelled c.args.name) (sym c.if-has_resource.ensures) in
    let P : List Name → Type 0 = λ l. sound (called l) (rows (vec_items c.args.self.now.tasks)) ≡ true in
    let Q : ℕ → Type 0 = λ n. n ≤ 32 in
    let few = c.args.self.now.few in
    record {
      few = (
        subst Q (sym c.push.ensures.len) (cond_both (is_ok c.push.result) _ _ Q (λ _. omega arith) (λ _. few.0)),
        few.1,
      );
      sound =
          subst P (sym c.push.ensures.items)
          (cond_both (is_ok c.push.result) _ _ P (λ _. ap (λ l. sound l (rows (vec_items c.args.self.now.tasks))) (map_push spelled (vec_items c.args.self.now.resources) c.args.name) ∙ new) (λ _. c.args.self.now.sound));
    }
