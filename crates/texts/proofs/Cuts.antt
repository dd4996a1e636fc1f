-- Where a separator cuts a list of bytes, and the lines that the cuts give.
use Rattle.std.proofs.Common.{Some, None, Option, IfSome, MatchOption, unwrap_or, sym, Bor, ◌≡◌, ℕ, ◌+◌, ◌<◌, ◌≤◌, true, false, cond, eqb, List, [], ◌∷◌, length, get_or, take, drop, refl, ap, ◌∙◌, add-one, arith}
use Rattle.std.proofs.lemmas.List.{at_drop_more, at_drop_all, drop_all, length-take}
use Rattle.std.proofs.lemmas.Bool.{cond-true, cond-false, eq-eqb, ne_eqb}
use Rattle.texts.specs.Lines.{reach, lines, first_line, after_line, onto, beyond, parts_from, line_parts}

pub reach-within : (sep : ℕ) (s : List ℕ) → reach sep s ≤ length s
reach-within sep [] = omega arith
reach-within sep (b ∷ s) = let h = reach-within sep s in grind arith

-- one step of the search for a separator
pub reach_here : (sep : ℕ) (s : List ℕ) (i : ℕ) → i < length s → get_or s i 0 ≡ sep → reach sep (drop i s) ≡ 0
reach_here sep s i h e = at_drop_more (reach sep) s i 0 h ∙ cond-true (eqb (get_or s i 0) sep) _ _ (eq-eqb _ _ e)

pub reach-next : (sep : ℕ) (s : List ℕ) (i : ℕ) → i < length s → (get_or s i 0 ≡ sep → ⊥) → reach sep (drop i s) ≡ reach sep (drop (i + 1) s) + 1
reach-next sep s i h ne = at_drop_more (reach sep) s i 0 h ∙ cond-false (eqb (get_or s i 0) sep) _ _ (ne_eqb _ _ ne)

pub reach-end : (sep : ℕ) (s : List ℕ) (i : ℕ) → length s ≤ i → reach sep (drop i s) ≡ 0
reach-end sep s i h = at_drop_all (reach sep) s i h

lines-shift : (b r : ℕ) (s : List ℕ) → ◌≡◌ {A = List (List ℕ)} ((b ∷ take r s) ∷ lines (drop (r + 1) s)) (take (r + 1) (b ∷ s) ∷ lines (drop (r + 1 + 1) (b ∷ s)))
lines-shift b r s = simp add-one

lines-grown : (b : ℕ) (s : List ℕ) → (0 < length s → lines s ≡ take (reach 10 s) s ∷ lines (drop (reach 10 s + 1) s)) → onto b (lines s) ≡ take (reach 10 s + 1) (b ∷ s) ∷ lines (drop (reach 10 s + 1 + 1) (b ∷ s))
lines-grown b [] more = refl
lines-grown b (a ∷ s) more = ap (onto b) (more (omega arith)) ∙ lines-shift b (reach 10 (a ∷ s)) (a ∷ s)

-- the first line, and the lines after it
pub lines_cut : (s : List ℕ) → 0 < length s → lines s ≡ take (reach 10 s) s ∷ lines (drop (reach 10 s + 1) s)
lines_cut [] h = absurd (omega arith)
lines_cut (b ∷ s) h =
    elim (eqb b 10) as (λ t. cond t ([] ∷ lines s) (onto b (lines s)) ≡ take (cond t 0 (reach 10 s + 1)) (b ∷ s) ∷ lines (drop (cond t 0 (reach 10 s + 1) + 1) (b ∷ s)))
    [ true ↦ refl | false ↦ lines-grown b s (lines_cut s) ]

-- the first line is as long as it reaches
pub first-length : (s : List ℕ) → length (first_line s) ≡ reach 10 s
first-length s = length-take (reach 10 s) s ∙ (let h = reach-within 10 s in omega arith)

-- the same of the parts of a text that its lines are
pub parts-cut : (text : Bor (List ℕ)) → 0 < length text.now → line_parts text ≡ record { ref_ptr = text.ref_ptr; now = first_line text.now } ∷ parts_from (beyond text.ref_ptr (reach 10 text.now + 1)) (lines (after_line text.now))
parts-cut text h =
    ap (parts_from text.ref_ptr) (lines_cut text.now h)
    ∙ ap (λ n. record { ref_ptr = text.ref_ptr; now = first_line text.now } ∷ parts_from (beyond text.ref_ptr (n + 1)) (lines (after_line text.now))) (first-length text.now)

-- what is left after the first line, which is nothing where no LF is found
pub left-after : (text rest nothing : Bor (List ℕ)) (after : Option (Bor (List ℕ))) → rest ≡ unwrap_or after nothing → nothing.now ≡ [] → MatchOption after (reach 10 text.now ≡ length text.now) (λ t. (reach 10 text.now < length text.now) × (t.now ≡ after_line text.now)) → IfSome after (λ t. t.ref_ptr ≡ beyond text.ref_ptr (reach 10 text.now + 1)) → (rest.now ≡ after_line text.now) × (parts_from (beyond text.ref_ptr (reach 10 text.now + 1)) (lines (after_line text.now)) ≡ line_parts rest)
left-after text rest nothing (Some t) is none back at = (ap (λ (b : Bor (List ℕ)). b.now) is ∙ back.1, (λ i. parts_from (sym at i) (lines (sym back.1 i))) ∙ ap line_parts (sym is))
left-after text rest nothing None is none back at =
    let over : after_line text.now ≡ [] = drop_all (reach 10 text.now + 1) text.now (omega arith) in (
      ap (λ (b : Bor (List ℕ)). b.now) is ∙ none ∙ sym over,
      ap (λ s. parts_from (beyond text.ref_ptr (reach 10 text.now + 1)) (lines s)) over ∙ ap (λ s. parts_from nothing.ref_ptr (lines s)) (sym none) ∙ ap line_parts (sym is),
    )
