-- What is written of a name reads back as that name.
use Rattle.std.proofs.Common.{◌≡◌, ℕ, ◌+◌, ◌<◌, ◌≤◌, false, eqb, List, [], ◌∷◌, ◌++◌, length, get_or, take, drop, Ok, codes, sym, refl, ap, ◌∙◌, arith}
use Rattle.std.proofs.lemmas.List.{take_more, append-nil, append_assoc, length-append}
use Rattle.std.proofs.lemmas.Bool.{cond_both, eqb-true, eqb-false, ne_eqb}
use Rattle.entities.specs.Entities.{five, width, value, written}
use Rattle.names.specs.Names.{decoded_from, admitted, decoded, encoded, Lawful}
use Rattle.names.proofs.Steps.{decoded-more, admitted-lawful}

-- s begins with what stands for b, and t follows
pub record Front (b : ℕ) (t s : List ℕ) : Type 0 where
  pub some : 0 < length s
  pub wide : 0 < width five s
  pub stands : value five s ≡ b
  pub rest : drop (width five s) s ≡ t

module _ (b : ℕ) (t : List ℕ) where
  -- an entity, and a byte that has none
  escaped : (v : ℕ) (e : List ℕ) → v ≡ b → 0 < length (e ++ t) → 0 < width five (e ++ t) → value five (e ++ t) ≡ v → drop (width five (e ++ t)) (e ++ t) ≡ t → Front b t (e ++ t)
  escaped v e is some wide stands rest = record { some = some; wide = wide; stands = stands ∙ is; rest = rest }

  plain : eqb 38 b ≡ false → Front b t (b ∷ t)
  plain ne =
      let no : eqb b 38 ≡ false = ne_eqb b 38 (λ e. eqb-false 38 b ne (sym e)) in
      record { some = omega arith; wide = simp no (omega arith); stands = simp no; rest = simp no }

  -- a written byte is read as that byte
  pub written-front : Front b t (written b ++ t)
  written-front =
      let F : List ℕ → Type 0 = λ e. Front b t (e ++ t) in
      cond_both (eqb 38 b) _ _ F (λ e. escaped 38 (codes "&amp;") (eqb-true 38 b e) (omega arith) (omega arith) refl refl)
      (λ ne. cond_both (eqb 60 b) _ _ F (λ e. escaped 60 (codes "&lt;") (eqb-true 60 b e) (omega arith) (omega arith) refl refl)
      (λ _. cond_both (eqb 62 b) _ _ F (λ e. escaped 62 (codes "&gt;") (eqb-true 62 b e) (omega arith) (omega arith) refl refl)
      (λ _. cond_both (eqb 39 b) _ _ F (λ e. escaped 39 (codes "&apos;") (eqb-true 39 b e) (omega arith) (omega arith) refl refl)
      (λ _. cond_both (eqb 34 b) _ _ F (λ e. escaped 34 (codes "&quot;") (eqb-true 34 b e) (omega arith) (omega arith) refl refl)
      (λ _. plain ne)))))

decoded-encoded : (n : List ℕ) (at : ℕ) (name : List ℕ) → length name + length n ≤ 32 → decoded_from five 0 at name (encoded n) ≡ Ok (name ++ n)
decoded-encoded [] at name h = ap Ok (sym (append-nil name))
decoded-encoded (b ∷ n) at name h =
    let f = written-front b (encoded n) in
    let s = written b ++ encoded n in
    decoded-more five at name s f.some f.wide (omega arith)
    ∙ (λ i. decoded_from five 0 (at + width five s) (name ++ f.stands i ∷ []) (f.rest i))
    ∙ decoded-encoded n (at + width five s) (name ++ b ∷ []) (simp length-append (omega arith))
    ∙ ap Ok (append_assoc name (b ∷ []) n)

pub round_trip : (n : List ℕ) → Lawful n → decoded (encoded n) ≡ Ok n
round_trip n h = ap admitted (decoded-encoded n 1 [] (omega arith)) ∙ admitted-lawful n h

encoded-push : (n : List ℕ) (b : ℕ) → encoded (n ++ b ∷ []) ≡ encoded n ++ written b
encoded-push [] b = append-nil (written b)
encoded-push (a ∷ n) b = ap (λ l. written a ++ l) (encoded-push n b) ∙ sym (append_assoc (written a) (encoded n) (written b))

-- one byte more is written
pub encoded-more : (n : List ℕ) (i : ℕ) → i < length n → encoded (take (i + 1) n) ≡ encoded (take i n) ++ written (get_or n i 0)
encoded-more n i h = ap encoded (take_more n i 0 h) ∙ encoded-push (take i n) (get_or n i 0)
