-- A search of a row for the first one of the best rank, as a chain: `first-place`.
use Rattle.std.proofs.Common.{◌≡◌, ℕ, suc, ◌+◌, ◌<◌, Bool, true, false, cond, ltb, List, [], ◌∷◌, length, map, Some, None, Option, Bor, sym, refl, ap, subst, ◌∙◌, add-one, ◌≤◌, arith}
use Rattle.std.proofs.lemmas.Bool.{cond_both, ltb-true, ltb-false}
use Rattle.std.proofs.lemmas.Cmp.{ranked}
use Rattle.std.proofs.lemmas.Iterator.{YieldsList}
use Rattle.std.proofs.iter.Yields.{gives_Drains}
use Rattle.std.specs.Fn.{CalledAt}
use Rattle.std.specs.Iterator.{PicksMinByKey, KeyTurn}
use Rattle.std.specs.List.{FoldsTo, fold, reduce, filter, enumerate_from}
use Rattle.std.specs.Option.{option_map}
use Rattle.std.specs.Ordering.{MatchOrdering, nat_cmp, min_by_ordering}
use Rattle.std.specs.declared.cmp.Ordering.{Ordering}
use Rattle.std.specs.declared.cmp.Ordering.TheVariants.{Less, Equal, Greater}
use denote.Param.Members.{Mut}
use Rattle.disciplines.specs.declared.section.OpenSection.{OpenSection}
use Rattle.disciplines.specs.Rules.{place}
use Rattle.disciplines.specs.Chosen.{improved, best_of, any_one}

-- the one of the lesser key; the first on a tie
abbrev lesser : {B : Type 0} → (B → ℕ) → B → B → B
lesser key p z = cond (ltb (key z) (key p)) z p

module _ {A B F : Type 0} (v : A → B) (key : B → ℕ) (g : Mut F (Bor A × Unit {0}) ℕ) (f : F)
    (keyed : (x : A) (k : ℕ) (q : F) → CalledAt g f x k q → (q ≡ f) × (k ≡ key (v x))) where
  -- one turn keeps the key of the item that it keeps
  key-kept : (o : Ordering) (p z : A) (k j : ℕ) → k ≡ key (v p) → j ≡ key (v z) → min_by_ordering o k j ≡ key (v (min_by_ordering o p z))
  key-kept Less p z k j e d = e
  key-kept Equal p z k j e d = e
  key-kept Greater p z k j e d = d

  turn : (o : Ordering) (p z : A) → nat_cmp (key (v p)) (key (v z)) ≡ o → v (min_by_ordering o p z) ≡ lesser key (v p) (v z)
  turn o p z e =
      cond_both (ltb (key (v z)) (key (v p))) (v z) (v p) (λ w. v (min_by_ordering o p z) ≡ w)
      (λ l. later o (ranked (key (v p)) (key (v z)) o (sym e)) (ltb-true (key (v z)) (key (v p)) l))
      (λ l. earlier o (ranked (key (v p)) (key (v z)) o (sym e)) (ltb-false (key (v z)) (key (v p)) l))
    where
      later : (o : Ordering) → MatchOrdering o (key (v p) < key (v z)) (key (v p) ≡ key (v z)) (key (v z) < key (v p)) → key (v z) < key (v p) → v (min_by_ordering o p z) ≡ v z
      later Less r l = absurd (omega arith)
      later Equal r l = absurd (omega arith)
      later Greater r l = refl

      earlier : (o : Ordering) → MatchOrdering o (key (v p) < key (v z)) (key (v p) ≡ key (v z)) (key (v z) < key (v p)) → key (v p) ≤ key (v z) → v (min_by_ordering o p z) ≡ v p
      earlier Less r l = refl
      earlier Equal r l = refl
      earlier Greater r l = absurd (omega arith)

  turns : (xs : List A) (p q : (F × ℕ) × A) → p.0.0 ≡ f → p.0.1 ≡ key (v p.1)
      → FoldsTo {P = (F × ℕ) × A} (KeyTurn min_by_ordering min_by_ordering g nat_cmp) p xs q → v q.1 ≡ fold (lesser key) (v p.1) (map v xs)
  turns [] p q e d h = ap (λ (w : (F × ℕ) × A). v w.1) (sym h)
  turns (z ∷ xs) p q e d h =
      let c = h.0 in
      let says = keyed z h.1.0 c.0.0 (subst (λ w. CalledAt g w z h.1.0 c.0.0) e h.1.2) in
      let kept : c.0.1 ≡ key (v c.1) = h.1.4 ∙ key-kept h.1.1 p.1 z p.0.1 h.1.0 d says.1 ∙ ap (λ w. key (v w)) (sym h.1.5) in
      let least : v c.1 ≡ lesser key (v p.1) (v z) =
      ap v h.1.5 ∙ turn h.1.1 p.1 z (ap (λ n. nat_cmp n (key (v z))) (sym d) ∙ ap (nat_cmp p.0.1) (sym says.1) ∙ h.1.3) in
      turns xs c q says.0 kept h.2 ∙ ap (λ w. fold (lesser key) w (map v xs)) least

-- what `min_by_key` answers is the first item of the least key
first-of-least : {S A B F : Type 0} {steps : S → Option A → S → Type 0} {v : A → B} {s : S} {all : List B} (key : B → ℕ) (g : Mut F (Bor A × Unit {0}) ℕ) {f : F} (r : Option A)
    → PicksMinByKey steps g nat_cmp s f r → YieldsList steps v s all → ((x : A) (k : ℕ) (q : F) → CalledAt g f x k q → (q ≡ f) × (k ≡ key (v x)))
    → option_map v r ≡ reduce (lesser key) all
first-of-least {steps = steps} {v} {s} {all} key g None h e keyed = ap (reduce (lesser key)) (gives_Drains steps v [] all s e.runs h)
first-of-least {steps = steps} {v} {s} {all} key g {f} (Some y) h e keyed =
    let says = keyed h.0 h.2 h.3 h.6 in
    ap Some (turns v key g f keyed h.1 ((h.3, h.2), h.0) (h.4, y) says.0 says.1 h.7)
    ∙ ap (reduce (lesser key)) (gives_Drains steps v (h.0 ∷ h.1) all s e.runs h.5)

-- an open section's rank, beside its place
abbrev rank_of : ℕ × OpenSection → ℕ
rank_of p = p.1.section.rank

module _ (passes : OpenSection → Bool) (row : List OpenSection) where
  -- the search from what was found so far
  abbrev from : Option ℕ → List (ℕ × OpenSection) → Option (ℕ × OpenSection)
  from None xs = reduce (lesser rank_of) xs
  from (Some b) xs = Some (fold (lesser rank_of) (b, place row b) xs)

  place-of : (found : Option ℕ) → option_map (λ p. p.0) (from found []) ≡ found
  place-of None = refl
  place-of (Some b) = refl

  better : (t : Bool) (b n : ℕ) (xs : List (ℕ × OpenSection))
      → Some (fold (lesser rank_of) (cond t (n, place row n) (b, place row b)) xs) ≡ from (cond t (Some n) (Some b)) xs
  better true b n xs = refl
  better false b n xs = refl

  -- one open section more, by whether it passes
  one_more : (t : Bool) (found : Option ℕ) (n : ℕ) (xs : List (ℕ × OpenSection))
      → from found (cond t ((n, place row n) ∷ xs) xs) ≡ from (cond t (improved row found n) found) xs
  one_more true None n xs = refl
  one_more true (Some b) n xs = better (ltb (place row n).section.rank (place row b).section.rank) b n xs
  one_more false found n xs = refl

  along : (rest : List OpenSection) (n : ℕ) → ((k : ℕ) → place row (n + k) ≡ place rest k) → n + length rest ≡ length row
      → option_map (λ p. p.0) (from (best_of passes row n) (filter (λ p. passes p.1) (enumerate_from n rest))) ≡ best_of passes row (length row)
  along [] n at e = place-of (best_of passes row n) ∙ (let end : n ≡ length row = omega arith in ap (best_of passes row) end)
  along (x ∷ xs) n at e =
      let after : List (ℕ × OpenSection) = filter (λ p. passes p.1) (enumerate_from (n + 1) xs) in
      let start : n ≡ n + 0 = omega arith in
      let shifted : (k : ℕ) → n + 1 + k ≡ n + suc k = λ k. omega arith in
      ap (λ z. option_map (λ p. p.0) (from (best_of passes row n) (cond (passes z) ((n, z) ∷ after) after))) (sym (ap (place row) start ∙ at 0))
      ∙ ap (option_map (λ p. p.0)) (one_more (passes (place row n)) (best_of passes row n) n after)
      ∙ ap (λ m. option_map (λ p. p.0) (from (best_of passes row m) after)) (sym (add-one n))
      ∙ along xs (n + 1) (λ k. ap (place row) (shifted k) ∙ at (suc k)) (omega arith)

-- the first best-ranked one of those that pass
first-best : (passes : OpenSection → Bool) (row : List OpenSection)
    → option_map (λ p. p.0) (reduce (lesser rank_of) (filter (λ p. passes p.1) (enumerate_from 0 row))) ≡ best_of passes row (length row)
first-best passes row = along passes row row 0 (λ k. let same : 0 + k ≡ k = omega arith in ap (place row) same) (omega arith)

places : {A : Type 0} (v : A → ℕ × OpenSection) (r : Option A) → option_map (λ x. (v x).0) r ≡ option_map (λ p. p.0) (option_map v r)
places v None = refl
places v (Some x) = refl

-- the place of what `min_by_key` answers on the row's open sections that pass
pub first-place : {S A F : Type 0} {steps : S → Option A → S → Type 0} {v : A → ℕ × OpenSection} {s : S} (passes : OpenSection → Bool) (row : List OpenSection) (g : Mut F (Bor A × Unit {0}) ℕ) {f : F} (r : Option A)
    → PicksMinByKey steps g nat_cmp s f r → YieldsList steps v s (filter (λ p. passes p.1) (enumerate_from 0 row))
    → ((x : A) (k : ℕ) (q : F) → CalledAt g f x k q → (q ≡ f) × (k ≡ rank_of (v x))) → option_map (λ x. (v x).0) r ≡ best_of passes row (length row)
first-place {v = v} passes row g r h e keyed =
    places v r ∙ ap (option_map (λ p. p.0)) (first-of-least rank_of g r h e keyed) ∙ first-best passes row

-- where each one passes
pub all-pass : (xs : List (ℕ × OpenSection)) → filter (λ p. any_one p.1) xs ≡ xs
all-pass [] = refl
all-pass (x ∷ xs) = ap (λ l. x ∷ l) (all-pass xs)
