use Rattle.std.proofs.Common.{◌≡◌, ℕ, ◌+◌, ◌<◌, ◌≤◌, List, length, map, get_or, set, vec_items, vec_len, Option, Some, refl, sym, ◌∙◌, arith}
use Rattle.std.specs.Option.{is_some, unwrap_or}
use Rattle.std.proofs.lemmas.Bool.{both_ways}
use Rattle.std.proofs.lemmas.Grind.{get_or_default_zero}
use Rattle.std.proofs.lemmas.List.{map-set, set_past}
use Rattle.spreading.specs.Spreading.{Seating, heaviest, lightest, seat_next}
use Rattle.spreading.proofs.chart.Chart.seat_next.Goals as goal

module _ (ls : List ℕ) (first : ℕ) (seats : List (Option ℕ)) (sums : List ℕ) where
  abbrev seating : List (Option ℕ) → List ℕ → Seating
  seating at loads = record { seats = map (λ seat. unwrap_or seat first) at; seated = map is_some at; sums = loads }

  -- a round, where the resource and the processor are those that the definition chooses
  one_round : (r p : ℕ) (loads : List ℕ) → r ≡ heaviest ls (map is_some seats) → p ≡ lightest sums → loads ≡ set sums p (get_or sums p 0 + get_or ls r 0)
      → seating (set seats r (Some (first + p))) loads ≡ seat_next ls first (seating seats sums)
  one_round r p loads heavy light new =
      let at = map-set (λ seat. unwrap_or seat first) seats r (Some (first + p)) in
      let done = map-set is_some seats r (Some (first + p)) in
      cc

pub returns-in-Some-clause-chart : goal.returns-in-Some-clause-chart
returns-in-Some-clause-chart c =
    let self = c.args.self.now in
    let long = self.sums.ok.0 in
    let p = c.lightest-processor.result in
    let within : p < length (vec_items self.sums) = omega (arith, c.in-Some.ensures.variant.0 refl) in
    let sum : c.in-Some.sum.now ≡ get_or (vec_items self.sums) p 0 = c.in-Some.ensures.value ∙ get_or_default_zero _ _ _ within in
    one_round c.args.loads.now self.first (vec_items self.seats) (vec_items self.sums) c.heaviest-resource.result p (set (vec_items self.sums) p (c.in-Some.sum.now + c.from.result)) (cc) (cc) (cc)

-- without a synchronisation processor no sum changes
pub returns-in_default-clause-chart : goal.returns-in_default-clause-chart
returns-in_default-clause-chart c =
    let self = c.args.self.now in
    let long = self.sums.ok.0 in
    let p = c.lightest-processor.result in
    let none : p < vec_len self.sums → ⊥ = λ h. both_ways _ refl (c.in_default.ensures.variant.1 h) in
    let past : length (vec_items self.sums) ≤ p = omega arith in
    one_round c.args.loads.now self.first (vec_items self.seats) (vec_items self.sums) c.heaviest-resource.result p (vec_items self.sums) (cc) (cc) (sym (set_past _ _ _ past))
