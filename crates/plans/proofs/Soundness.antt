-- What weighing answers is sound: `weighed-sound`.
use Rattle.std.proofs.Common.{◌≡◌, ℕ, Bool, true, false, cond, not, eqb, leb, List, length, Ok, Err, Result, ◌∙◌, subst, arith}
use Rattle.std.proofs.lemmas.Bool.{and_parts, cond-false, leb-true, ne_eqb}
use Rattle.disciplines.specs.Rules.{Relation}
use Rattle.tables.specs.Rows.{Listing}
use Rattle.analysis.specs.declared.lateness.WeighFault.{WeighFault}
use Rattle.analysis.specs.declared.lateness.WeighFault.TheVariants.{Box, Seat}
use Rattle.analysis.specs.declared.part.Bounds.{Bounds}
use Rattle.analysis.specs.Seats.{Seats, is_box, lawful}
use Rattle.analysis.specs.Weighing.{Planned, bounds_to, plan_with, weigh_of}
use Rattle.exactness.proofs.Tasks.{bounds_to-length, terms_to-length, weighed-keeps}
use Rattle.plans.specs.Empty.{empty_or_lawful}
use Rattle.plans.specs.Sound.{Sound}

module _ (may : Relation) (m q : ℕ) (t : Listing) (s : Seats) where
  -- a box has processors, so its plan is not the empty one
  lawful-plan : is_box m ≡ true → lawful m q t s ≡ true → empty_or_lawful m q t s ≡ true
  lawful-plan box law =
      let some : m ≡ 0 → ⊥ = λ z. omega (arith, leb-true 2 m (and_parts (leb 2 m) (leb m 16) box).0) in
      cond-false (eqb m 0) _ (lawful m q t s) (ne_eqb m 0 some) ∙ law

  sound-with : is_box m ≡ true → lawful m q t s ≡ true → (r : Result (List Bounds) WeighFault) → bounds_to may s t.tasks (length t.tasks) ≡ r
      → (p : Planned) → plan_with may m q t s r ≡ Ok p → Sound p
  sound-with box law (Err fault) e p is = absurd (let z : ◌≡◌ {A = ℕ} 0 1 = cc in omega arith)
  sound-with box law (Ok bounds) e p is =
      let P : Planned → Type 0 = Sound in
      let same = λ (x y : Planned) (h : ◌≡◌ {A = Result Planned WeighFault} (Ok x) (Ok y)). let u : x ≡ y = cc in u in
      subst P (same _ p is)
      (record {
        terms = terms_to-length may s t.tasks (length t.tasks);
        bounds = bounds_to-length may s t.tasks (length t.tasks) bounds e;
        lawful = lawful-plan box law;
        kept = weighed-keeps may s t.tasks bounds e;
      })

  -- past the two tests
  judged-sound : is_box m ≡ true → (law : Bool) → lawful m q t s ≡ law → (p : Planned)
      → cond (not law) (Err Seat) (plan_with may m q t s (bounds_to may s t.tasks (length t.tasks))) ≡ Ok p → Sound p
  judged-sound box false law p is = absurd (let z : ◌≡◌ {A = ℕ} 0 1 = cc in omega arith)
  judged-sound box true law p is = sound-with box law (bounds_to may s t.tasks (length t.tasks)) mathlib.Core.Path.refl p is

  by-box : (box : Bool) → is_box m ≡ box → (p : Planned)
      → cond (not box) (Err Box) (cond (not (lawful m q t s)) (Err Seat) (plan_with may m q t s (bounds_to may s t.tasks (length t.tasks)))) ≡ Ok p → Sound p
  by-box false box p is = absurd (let z : ◌≡◌ {A = ℕ} 0 1 = cc in omega arith)
  by-box true box p is = judged-sound box (lawful m q t s) mathlib.Core.Path.refl p is

  pub weighed-sound : (p : Planned) → weigh_of may m q t s ≡ Ok p → Sound p
  weighed-sound p is = by-box (is_box m) mathlib.Core.Path.refl p is
