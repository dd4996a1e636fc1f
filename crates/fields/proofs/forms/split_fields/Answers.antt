use Rattle.std.proofs.Common.{rules, tests, ◌≡◌, ◌++◌, OnOk, ap, ◌∙◌, subst}
use Rattle.std.proofs.lemmas.Iterator.Adapters.{fact_from_extend}
use Rattle.std.proofs.lemmas.Iterator.Consumers.{YieldsList-at}
use Rattle.fields.specs.Forms.{all_filled, held}
use Rattle.texts.specs.Lines.{pieces}
use Rattle.fields.proofs.Parts.{YieldsList-from_splitn, splitn_steps, parts_of, parts-few, parts-many}
use Rattle.fields.proofs.forms.split_fields.Goals as goal

-- the line is cut into its parts, the last of which is all that is left
parts : (c : goal.In_ok-extend) → held c.extend.new.self.items ≡ parts_of c.args.most (pieces c.args.line.now)
parts c =
    subst (λ r. OnOk r (held c.extend.new.self.items ≡ parts_of c.args.most (pieces c.args.line.now))) c.in_ok-extend.was
    (fact_from_extend {steps = splitn_steps _} (λ y. y.now) c.extend.result c.extend.ensures.ran
    (λ it b. YieldsList-at b (YieldsList-from_splitn _ c.args.most c.args.line.now c.splitn.ensures.rest c.splitn.ensures.done c.splitn.ensures.closure c.splitn.ensures.count (λ x r q k. search (rules, tests))))
    (λ xs e h. ap held (h.0 ∙ ap (λ l. l ++ xs) c.in_ok-out.ensures.items) ∙ e))

pub returns-clause-few : goal.returns-clause-few
returns-clause-few c = λ few. parts c ∙ parts-few c.args.most (pieces c.args.line.now) few

pub returns-clause-many : goal.returns-clause-many
returns-clause-many c = λ many. ap all_filled (parts c) ∙ parts-many c.args.most (pieces c.args.line.now) c.requires many
