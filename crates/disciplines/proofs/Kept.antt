-- The chosen section keeps the rules: `chosen-kept`.
--
--   FirstBest      what `best_of` finds, by the sections that pass
--   best_of-found  it finds that
use Rattle.std.proofs.Common.{◌≡◌, ℕ, zero, suc, ◌<◌, ◌≤◌, Bool, true, false, cond, ltb, List, length, Some, None, Option, sym, refl, subst, inl, inr, ⊎_elim, le_of_suc-le-suc, not-suc-le-zero, eq-or-lt_of_le, arith}
use Rattle.std.proofs.lemmas.Bool.{cond_both, ltb-true, ltb-false, both_ways, and_parts, and_cases, cases_lt}
use Rattle.disciplines.specs.declared.section.Section.{Section}
use Rattle.disciplines.specs.declared.section.OpenSection.{OpenSection}
use Rattle.disciplines.specs.Rules.{Relation, Answers, place}
use Rattle.disciplines.specs.Chosen.{improved, best_of, any_one, holds_against, best_in, holder_of, or_else, held_or, chosen}

-- what holds below n and at n holds below suc n
below_suc : (P : ℕ → Type 0) (n : ℕ) → ((k : ℕ) → k < n → P k) → P n → (k : ℕ) → k < suc n → P k
below_suc P n all here k l = ⊎_elim (λ e. subst P (sym e) here) (λ lt. all k lt) (eq-or-lt_of_le (le_of_suc-le-suc l))

-- none of the first n passes, or this one does, and none that passes ranks better
abbrev FirstBest : (OpenSection → Bool) → List OpenSection → ℕ → Option ℕ → Type 0
FirstBest passes row n None = (k : ℕ) → k < n → passes (place row k) ≡ false
FirstBest passes row n (Some b) =
    (b < n) × (passes (place row b) ≡ true)
    × ((k : ℕ) → k < n → passes (place row k) ≡ true → (place row b).section.rank ≤ (place row k).section.rank)

module _ (passes : OpenSection → Bool) (row : List OpenSection) where
  -- one more open section, by whether it passes
  one_more : (n : ℕ) (found : Option ℕ) (t : Bool) → passes (place row n) ≡ t → FirstBest passes row n found
      → FirstBest passes row (suc n) (cond t (improved row found n) found)
  one_more n None false p f = below_suc (λ k. passes (place row k) ≡ false) n f p
  one_more n None true p f = (
    omega arith,
    p,
    below_suc (λ k. passes (place row k) ≡ true → (place row n).section.rank ≤ (place row k).section.rank) n
        (λ k l y. absurd (both_ways (passes (place row k)) (f k l) y)) (λ _. omega arith),
  )
  one_more n (Some b) false p (l, y, m) = (
    omega arith,
    y,
    below_suc (λ k. passes (place row k) ≡ true → (place row b).section.rank ≤ (place row k).section.rank) n m
        (λ z. absurd (both_ways (passes (place row n)) p z)),
  )
  one_more n (Some b) true p (l, y, m) =
      cond_both (ltb (place row n).section.rank (place row b).section.rank) (Some n) (Some b) (FirstBest passes row (suc n))
      (λ e. (
        omega arith,
        p,
        below_suc (λ k. passes (place row k) ≡ true → (place row n).section.rank ≤ (place row k).section.rank) n
            (λ k h z. omega (arith, m k h z, ltb-true (place row n).section.rank (place row b).section.rank e)) (λ _. omega arith),
      ))
      (λ e. (
        omega arith,
        y,
        below_suc (λ k. passes (place row k) ≡ true → (place row b).section.rank ≤ (place row k).section.rank) n m
            (λ _. ltb-false (place row n).section.rank (place row b).section.rank e),
      ))

  best_of-found : (n : ℕ) → FirstBest passes row n (best_of passes row n)
  best_of-found zero = λ k l. absurd (not-suc-le-zero l)
  best_of-found (suc n) = one_more n (best_of passes row n) (passes (place row n)) refl (best_of-found n)

module _ (may : Relation) (row : List OpenSection)
    (first : (x y z : Section) → may x y ≡ true → y.rank ≤ z.rank → may x z ≡ true) where
  -- the best-ranked one, by its holder
  held_kept : (b : ℕ) → FirstBest any_one row (length row) (Some b)
      → (h : Option ℕ) → FirstBest (holds_against may (place row b).section) row (length row) h → Answers may row (or_else h b)
  held_kept b (l, _, m) None free = (
    l,
    record {
      ahead = inr (λ k lt. m k lt refl);
      fresh = λ _ k lt s. elim (and_cases (place row k).started (may (place row k).section (place row b).section) (free k lt)) [
        | inl n ↦ absurd (both_ways (place row k).started n s)
        | inr n ↦ n
      ];
    },
  )
  held_kept b (l, _, m) (Some h) (lh, y, _) =
      let parts = and_parts (place row h).started (may (place row h).section (place row b).section) y in (
        lh,
        record {
          ahead = inl (parts.0, λ k lt _. first (place row h).section (place row b).section (place row k).section parts.1 (m k lt refl));
          fresh = λ n. absurd (both_ways (place row h).started n parts.0);
        },
      )

  best-kept : (b : Option ℕ) → FirstBest any_one row (length row) b → Answers may row (held_or may row b)
  best-kept None none = elim (cases_lt 0 (length row)) [ inl l ↦ absurd (both_ways true (none 0 l) refl) | inr z ↦ omega arith ]
  best-kept (Some b) f =
      held_kept b f (holder_of may (place row b).section row) (best_of-found (holds_against may (place row b).section) row (length row))

  pub chosen-kept : (r : Option ℕ) → r ≡ chosen may row → Answers may row r
  chosen-kept r e = subst (Answers may row) (sym e) (best-kept (best_in row) (best_of-found any_one row (length row)))
