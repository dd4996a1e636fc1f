-- Weighing task by task.
--
--   Weighed       the weights of the first tasks
--   weighed-more  one task more that is not late
--   late-told     a late task is told, whatever comes after it
--   all-told      in the end the weights are told
use Rattle.std.proofs.Common.{◌≡◌, ℕ, zero, suc, ◌+◌, ◌<◌, List, [], ◌∷◌, ◌++◌, Ok, Err, Result, sym, ap, ◌∙◌, subst, ⊎_elim, add-one, arith}
use Rattle.std.proofs.lemmas.Bool.{cases_eq}
use Rattle.std.proofs.lemmas.List.{map_push}
use Rattle.disciplines.specs.Rules.{Relation}
use Rattle.tables.specs.Rows.{Row}
use Rattle.analysis.specs.declared.lateness.Lateness.{Lateness}
use Rattle.analysis.specs.declared.lateness.WeighFault.TheVariants.{Late}
use Rattle.analysis.specs.declared.part.Bounds.{Bounds}
use Rattle.analysis.specs.Blocking.{blocking}
use Rattle.analysis.specs.Judging.{judged}
use Rattle.analysis.specs.Seats.{Seats}
use Rattle.analysis.specs.Weighing.{bounds_to, or_late, terms_to, with_task}
use Rattle.weights.specs.declared.weight.Weight.{Weight}
use Rattle.weights.specs.Weights.{bounds_of, terms_of, weighed_to, with_terms}

module _ (may : Relation) (s : Seats) (rows : List Row) where
  -- these are the weights of the first k tasks, none of which is late
  abbrev pub Weighed : ℕ → List Weight → Type 0
  Weighed k weights = (terms_of weights ≡ terms_to may s rows k) × (bounds_to may s rows k ≡ Ok (bounds_of weights))

  -- the answer for one task more, by that for the tasks before it
  next : (k : ℕ) (bounds : List Bounds) (verdict : Result Bounds Lateness) → bounds_to may s rows k ≡ Ok bounds
      → verdict ≡ judged s rows (blocking may s rows k) k → bounds_to may s rows (suc k) ≡ with_task may s rows k bounds verdict
  next k bounds verdict sofar e = ap (or_late may s rows k) sofar ∙ ap (with_task may s rows k bounds) (sym e)

  pub weighed-more : (k : ℕ) (weights after : List Weight) (w : Weight) → after ≡ weights ++ w ∷ [] → w.blocking ≡ blocking may s rows k
      → Ok w.bounds ≡ judged s rows w.blocking k → Weighed k weights → Weighed (k + 1) after
  weighed-more k weights after w is term e (terms, bounds) =
      subst (Weighed (k + 1)) (sym is) (
        map_push (λ w. w.blocking) weights w ∙ ap (λ (l : List ℕ). l ++ w.blocking ∷ []) terms
            ∙ rw add-one (ap (λ (n : ℕ). terms_to may s rows k ++ n ∷ []) term),
        rw add-one (next k (bounds_of weights) (Ok w.bounds) bounds (e ∙ ap (λ (b : ℕ). judged s rows b k) term)) ∙ ap Ok (sym (map_push (λ w. w.bounds) weights w)),
      )

  stays : (k : ℕ) (lateness : Lateness) → bounds_to may s rows (suc k) ≡ Err (Late k lateness) → (n : ℕ) → k < n
      → bounds_to may s rows n ≡ Err (Late k lateness)
  stays k lateness here zero h = absurd (omega arith)
  stays k lateness here (suc n) h =
      ⊎_elim
      (λ (e : k ≡ n). ap (λ (j : ℕ). bounds_to may s rows (suc j)) (sym e) ∙ here)
      (λ (ne : k ≡ n → ⊥). ap (or_late may s rows n) (stays k lateness here n (omega arith)))
      (cases_eq k n)

  -- once a task is late, so is what weighing all answers
  pub late-told : (k term n : ℕ) (weights : List Weight) (lateness : Lateness) → Weighed k weights → term ≡ blocking may s rows k
      → Err lateness ≡ judged s rows term k → k < n → weighed_to may s rows n ≡ Err (Late k lateness)
  late-told k term n weights lateness (terms, bounds) te e h =
      ap (with_terms (terms_to may s rows n))
      (stays k lateness (next k (bounds_of weights) (Err lateness) bounds (e ∙ ap (λ (b : ℕ). judged s rows b k) te)) n h)

  -- in the end all tasks are weighed
  pub all-told : (k n : ℕ) (weights : List Weight) → n ≡ k → Weighed k weights → weighed_to may s rows n ≡ Ok (terms_of weights, bounds_of weights)
  all-told k n weights e (terms, bounds) =
      ap (weighed_to may s rows) e ∙ ap (with_terms (terms_to may s rows k)) bounds ∙ ap (λ (l : List ℕ). with_terms l (Ok (bounds_of weights))) (sym terms)
