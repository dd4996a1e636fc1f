use Rattle.std.proofs.Common.{rules, tests, arith, ◌≡◌, ◌+◌, ◌<◌, ◌^◌, ◌++◌, false, length, drop, None, Some, sym, refl, ap, ◌∙◌, subst}
use Rattle.std.proofs.lemmas.Grind.{get_or_default_zero}
use Rattle.std.proofs.lemmas.Iterator.{YieldsList-from_slice}
use Rattle.std.proofs.lemmas.Iterator.Consumers.{YieldsList-end, YieldsList-so_far, YieldsList-turn}
use Rattle.std.proofs.lemmas.List.{take-append-drop}
use Rattle.std.proofs.lemmas.Option.{MatchOption-at_none, MatchOption-at_some}
use Rattle.fields.specs.Figures.{digits, is_digit}
use Rattle.fields.proofs.Digits.{below-some, digits-all, digits-none, folded-below, folded-digits}
use Rattle.fields.proofs.figures.number.Goals as goal

-- the digits before this one are fewer than 8, so that the number so far has room for it
pub try_fold-requires-clause-callable : goal.try_fold-requires-clause-callable
try_fold-requires-clause-callable c = record {
  at =
      λ xs t q x u y f k.
      let turn = YieldsList-turn (YieldsList-from_slice c.args.bytes.now cc) xs t y (Some x) u x refl k in
      let below : q.1 < 10 ^ (0 + length xs) = folded-below _ (λ p z r k. (search (rules, tests), search (rules, tests))) xs _ q 0 f (omega arith) in
      let count : 0 + length xs ≡ length xs = omega arith in
      let room = below-some q.1 (length xs) (omega arith) (subst (λ n. q.1 < 10 ^ n) count below) in
      (λ κs r g e l b lo hi. omega arith, λ κs r g e l b lo hi. lo, λ κs r g e l b lo hi d. omega arith);
}

-- the fold went over the first digits, up to the end or to a byte that is no digit
pub returns : goal.returns
returns c =
    let h = c.try_fold.ensures.ran in
    let on = folded-digits _ (λ p z r k. (search (rules, tests), search (rules, tests))) h.0 _ _ (drop (length h.0) c.args.bytes.now) h.5 in
    let road = YieldsList-from_slice c.args.bytes.now cc in
    let first = YieldsList-so_far road h.0 h.4.0 h.4.1 in
    let whole = ap (λ l. digits 0 (l ++ drop (length h.0) c.args.bytes.now)) first ∙ ap (digits 0) (take-append-drop (length h.0) c.args.bytes.now) in
    let rest : digits h.3 (drop (length h.0) c.args.bytes.now) ≡ digits 0 c.args.bytes.now = sym on ∙ whole in
    elim h.1 as (λ o. h.1 ≡ o → c.try_fold.result ≡ digits 0 c.args.bytes.now) [
      | None ↦ λ e.
          let end = YieldsList-end road h.0 h.4.0 h.4.1 h.1 _ e h.4.2 in
          MatchOption-at_none _ _ e h.6 ∙ sym (digits-all h.3 c.args.bytes.now (length h.0) (omega arith)) ∙ rest
      | Some x ↦ λ e.
          let turn = YieldsList-turn road h.0 h.4.0 h.4.1 h.1 _ x e h.4.2 in
          let stop = MatchOption-at_some _ _ x e h.6 in
          let none : c.try_fold.result ≡ None = search (rules, tests) in
          let other : is_digit x.now ≡ false = search (rules, tests) in
          none ∙ sym (digits-none h.3 c.args.bytes.now (length h.0) turn.0 (ap is_digit (sym (turn.1 ∙ get_or_default_zero c.args.bytes.now (length h.0) x.now turn.0)) ∙ other)) ∙ rest
    ] refl
