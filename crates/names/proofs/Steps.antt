-- How decoding goes on from one unit of a field to the next, for any table of entities.
use Rattle.std.proofs.Common.{◌≡◌, ℕ, zero, suc, ◌+◌, ◌-◌, ◌<◌, ◌≤◌, ◌&&◌, eqb, leb, List, [], ◌∷◌, ◌++◌, length, get_or, drop, Ok, Err, Result, sym, refl, ap, ◌∙◌, ⊎_elim, arith}
use Rattle.std.proofs.lemmas.List.{length-append}
use Rattle.std.proofs.lemmas.Bool.{cases_Bool, cond-true, cond-false, ne_eqb, lt-leb, leb-false, eqb-false}
use Rattle.std.proofs.lemmas.Bool.Decides.{nat_tests}
use Rattle.names.specs.declared.fault.NameFault.{NameFault}
use Rattle.names.specs.declared.fault.NameFault.TheVariants.{Empty, BadEntity, TooLong, LoneHyphen}
use Rattle.entities.specs.Entities.{Entity, width, value}
use Rattle.names.specs.Names.{decoded_from, admitted, decoded_by, Lawful}

module _ (t : List Entity) where
  -- what is skipped is dropped
  skipped : (k at : ℕ) (name s : List ℕ) → decoded_from t k at name s ≡ decoded_from t 0 (at + k) name (drop k s)
  skipped zero at name [] = refl
  skipped (suc k) at name [] = refl
  skipped zero at name (b ∷ s) = ap (λ n. decoded_from t 0 n name (b ∷ s)) (omega arith)
  skipped (suc k) at name (b ∷ s) = skipped k (at + 1) name s ∙ ap (λ n. decoded_from t 0 n name (drop k s)) (omega arith)

  one_on : (at : ℕ) (name : List ℕ) (b : ℕ) (s : List ℕ) (w : ℕ) → 0 < w → decoded_from t 0 (at + 1 + (w - 1)) name (drop (w - 1) s) ≡ decoded_from t 0 (at + w) name (drop w (b ∷ s))
  one_on at name b s zero h = absurd (omega arith)
  one_on at name b s (suc w) h =
      let e : suc w - 1 ≡ w = omega arith in
      let f : at + 1 + (suc w - 1) ≡ at + suc w = omega arith in
      (λ i. decoded_from t 0 (f i) name (drop (e i) s))

  pub decoded-more : (at : ℕ) (name s : List ℕ) → 0 < length s → 0 < width t s → length name < 32 → decoded_from t 0 at name s ≡ decoded_from t 0 (at + width t s) (name ++ value t s ∷ []) (drop (width t s) s)
  decoded-more at name [] l w h = absurd (omega arith)
  decoded-more at name (b ∷ s) l w h =
      cond-false (eqb (width t (b ∷ s)) 0) _ _ (ne_eqb _ _ (λ e. omega arith))
      ∙ cond-false (leb 32 (length name)) _ _ (lt-leb _ _ h)
      ∙ skipped (width t (b ∷ s) - 1) (at + 1) (name ++ value t (b ∷ s) ∷ []) s
      ∙ one_on at (name ++ value t (b ∷ s) ∷ []) b s (width t (b ∷ s)) w

  never : {X : Type 0} (e : NameFault) (n : List ℕ) (r : Result (List ℕ) NameFault) → r ≡ Err e → r ≡ Ok n → X
  never e n r p q = let z : ◌≡◌ {A = ℕ} 0 1 = cc in absurd (omega arith)

  -- a step that led to a name had room, and went on
  went_on : (at : ℕ) (name : List ℕ) (b : ℕ) (s n : List ℕ) → decoded_from t 0 at name (b ∷ s) ≡ Ok n → (length name < 32) × (decoded_from t (width t (b ∷ s) - 1) (at + 1) (name ++ value t (b ∷ s) ∷ []) s ≡ Ok n)
  went_on at name b s n e =
      ⊎_elim
      (λ bad. never (BadEntity at) n (decoded_from t 0 at name (b ∷ s)) (cond-true (eqb (width t (b ∷ s)) 0) _ _ bad) e)
      (λ good.
      ⊎_elim
      (λ full. never (TooLong at) n (decoded_from t 0 at name (b ∷ s)) (cond-false (eqb (width t (b ∷ s)) 0) _ _ good ∙ cond-true (leb 32 (length name)) _ _ full) e)
      (λ room. (leb-false 32 (length name) room, sym (cond-false (eqb (width t (b ∷ s)) 0) _ _ good ∙ cond-false (leb 32 (length name)) _ _ room) ∙ e))
      (cases_Bool (leb 32 (length name))))
      (cases_Bool (eqb (width t (b ∷ s)) 0))

  short : (skip at : ℕ) (name s n : List ℕ) → length name ≤ 32 → decoded_from t skip at name s ≡ Ok n → length n ≤ 32
  short skip at name [] n h e = let same : name ≡ n = cc in omega (arith, ap length same)
  short (suc k) at name (b ∷ s) n h e = short k (at + 1) name s n h e
  short zero at name (b ∷ s) n h e =
      let on = went_on at name b s n e in
      short (width t (b ∷ s) - 1) (at + 1) (name ++ value t (b ∷ s) ∷ []) s n (simp length-append (omega arith)) on.1

  -- what is admitted is a name: it has a byte, and is no hyphen
  admits : (r : Result (List ℕ) NameFault) (n : List ℕ) → admitted r ≡ Ok n → (r ≡ Ok n) × ((0 < length n) × (n ≡ 45 ∷ [] → ⊥))
  admits (Ok m) n e =
      ⊎_elim
      (λ none. never Empty n (admitted (Ok m)) (cond-true (eqb (length m) 0) _ _ none) e)
      (λ some.
      ⊎_elim
      (λ dash. never LoneHyphen n (admitted (Ok m)) (cond-false (eqb (length m) 0) _ _ some ∙ cond-true (eqb (length m) 1 && eqb (get_or m 0 0) 45) _ _ dash) e)
      (λ plain.
      let same : ◌≡◌ {A = Result (List ℕ) NameFault} (Ok m) (Ok n) = sym (cond-false (eqb (length m) 0) _ _ some ∙ cond-false (eqb (length m) 1 && eqb (get_or m 0 0) 45) _ _ plain) ∙ e in
      let is : m ≡ n = cc in
      (same, (let ne = eqb-false (length m) 0 some in omega (arith, ap length is), λ h. let lone : m ≡ 45 ∷ [] = is ∙ h in let one = ap length lone in let dash = ap (λ l. get_or l 0 0) lone in grind (arith, nat_tests))))
      (cases_Bool (eqb (length m) 1 && eqb (get_or m 0 0) 45)))
      (cases_Bool (eqb (length m) 0))
  admits (Err x) n e = let z : ◌≡◌ {A = ℕ} 0 1 = cc in absurd (omega arith)

  pub decoded-lawful : (s n : List ℕ) → decoded_by t s ≡ Ok n → Lawful n
  decoded-lawful s n e =
      let a = admits (decoded_from t 0 1 [] s) n e in
      (a.1.0, short 0 1 [] s n (omega arith) a.0, a.1.1)

pub admitted-lawful : (n : List ℕ) → Lawful n → admitted (Ok n) ≡ Ok n
admitted-lawful [] h = absurd (omega (arith, h.0))
admitted-lawful (a ∷ []) h = cond-false (eqb a 45) _ _ (ne_eqb a 45 (λ e. h.2 (ap (λ x. x ∷ []) e)))
admitted-lawful (a ∷ b ∷ n) h = grind (arith, nat_tests)
