-- The lines of a text by their numbers, and where they begin. Numbers count from 0 here.
use Rattle.std.proofs.Common.{map, eqb, cond, ◌≡◌, ℕ, zero, suc, ◌+◌, ◌-◌, ◌<◌, ◌≤◌, true, false, List, [], ◌∷◌, length, get_or, take, drop, Some, None, Option, MatchOption, slice_get, unwrap_or, Bor, sym, refl, ap, ◌∙◌, subst, ⊎_elim, add-zero, add_assoc, arith}
use Rattle.std.specs.Option.{SomeIff}
use Rattle.std.proofs.lemmas.List.{drop-drop, get_or_past, length-map}
use Rattle.std.proofs.lemmas.Bool.{cases_lt, cond-true, cond-false}
use Rattle.std.proofs.lemmas.Bool.Decides.{nat_tests}
use Rattle.texts.specs.Lines.{reach, lines, onto, extent, has_line, line_start, StandsFrom, beyond, line_address, parts_from, line_parts}
use Rattle.texts.proofs.Cuts.{lines_cut, first-length}

-- the part that a line is, and the address at which it begins
part-at : (at : ℕ × ℕ) (ls : List (List ℕ)) (k : ℕ) → k < length ls → slice_get (parts_from at ls) k ≡ Some (record { ref_ptr = beyond at (extent (take k ls)); now = get_or ls k [] })
part-at at [] k h = absurd (omega arith)
part-at at (l ∷ ls) zero h = ap (λ n. Some (record { ref_ptr = (at.0, n); now = l })) (sym (add-zero at.1))
part-at at (l ∷ ls) (suc k) h =
    part-at (beyond at (length l + 1)) ls k (omega arith)
    ∙ ap (λ n. Some (record { ref_ptr = (at.0, n); now = get_or ls k [] })) (add_assoc at.1 (length l + 1) (extent (take k ls)))

part-past : (at : ℕ × ℕ) (ls : List (List ℕ)) (k : ℕ) → length ls ≤ k → slice_get (parts_from at ls) k ≡ None
part-past at [] k h = refl
part-past at (l ∷ ls) zero h = absurd (omega arith)
part-past at (l ∷ ls) (suc k) h = part-past (beyond at (length l + 1)) ls k (omega arith)

parts_from-lines : (at : ℕ × ℕ) (ls : List (List ℕ)) → map (λ line. line.now) (parts_from at ls) ≡ ls
parts_from-lines at [] = refl
parts_from-lines at (l ∷ ls) = ap (λ ks. l ∷ ks) (parts_from-lines (beyond at (length l + 1)) ls)

-- the parts are the lines
pub parts-lines : (text : Bor (List ℕ)) → map (λ line. line.now) (line_parts text) ≡ lines text.now
parts-lines text = parts_from-lines text.ref_ptr (lines text.now)

onto-length : (b : ℕ) (ps : List (List ℕ)) → length (onto b ps) ≤ length ps + 1
onto-length b [] = omega arith
onto-length b (p ∷ ps) = omega arith

-- a line takes up a byte at least, if only its LF
lines-length : (s : List ℕ) → length (lines s) ≤ length s
lines-length [] = omega arith
lines-length (b ∷ s) =
    let h = lines-length s in
    let o = onto-length b (lines s) in
    elim (eqb b 10) as (λ t. length (cond t ([] ∷ lines s) (onto b (lines s))) ≤ suc (length s)) [ true ↦ omega arith | false ↦ omega arith ]

pub parts-length : (text : Bor (List ℕ)) → length (line_parts text) ≤ length text.now
parts-length text =
    let same = length-map (line_parts text) (λ line. line.now) in
    let e = ap length (parts-lines text) in
    let h = lines-length text.now in
    omega arith

-- the bytes of the line that begins at offset i
abbrev pub line_from : List ℕ → ℕ → List ℕ
line_from s i = take (reach 10 (drop i s)) (drop i s)

start-next : (s : List ℕ) (n : ℕ) → 0 < length s → extent (take (suc n) (lines s)) ≡ reach 10 s + 1 + extent (take n (lines (drop (reach 10 s + 1) s)))
start-next s n h = ap (λ ls. extent (take (suc n) ls)) (lines_cut s h) ∙ ap (λ k. k + 1 + extent (take n (lines (drop (reach 10 s + 1) s)))) (first-length s)

-- a line begins at its start
pub line-from-start : (s : List ℕ) (n : ℕ) → n < length (lines s) → get_or (lines s) n [] ≡ line_from s (extent (take n (lines s)))
line-from-start [] n h = absurd (omega arith)
line-from-start (b ∷ s) zero h = ap (λ ls. get_or ls 0 []) (lines_cut (b ∷ s) (omega arith))
line-from-start (b ∷ s) (suc n) h =
    let some : 0 < length (b ∷ s) = omega arith in
    let cut = lines_cut (b ∷ s) some in
    let more : n < length (lines (drop (reach 10 (b ∷ s) + 1) (b ∷ s))) = let e = ap length cut in omega arith in
    ap (λ ls. get_or ls (suc n) []) cut
    ∙ line-from-start (drop (reach 10 (b ∷ s) + 1) (b ∷ s)) n more
    ∙ ap (λ (r : List ℕ). take (reach 10 r) r)
    (drop-drop (extent (take n (lines (drop (reach 10 (b ∷ s) + 1) (b ∷ s))))) (reach 10 (b ∷ s) + 1) (b ∷ s)
    ∙ ap (λ i. drop i (b ∷ s)) (sym (start-next (b ∷ s) n some)))

-- the same, counted from 1
pub numbered-from-start : (s : List ℕ) (n : ℕ) → has_line n s ≡ true → get_or ([] ∷ lines s) n [] ≡ line_from s (line_start n s)
numbered-from-start s zero h = let z : ◌≡◌ {A = ℕ} 0 1 = grind (arith, nat_tests) in absurd (omega arith)
numbered-from-start s (suc n) h =
    let lt : n < length (lines s) = grind (arith, nat_tests) in
    let e : n ≡ suc n - 1 = omega arith in
    line-from-start s n lt ∙ ap (λ k. line_from s (extent (take k (lines s)))) e

-- there is nothing at a number that no line has
pub numbered-none : (s : List ℕ) (n : ℕ) → has_line n s ≡ false → get_or ([] ∷ lines s) n [] ≡ []
numbered-none s zero h = refl
numbered-none s (suc n) h = let le : length (lines s) ≤ n = grind (arith, nat_tests) in get_or_past (lines s) n [] le

-- a first part is so many bytes of the whole as it has
pub take_own : (r : ℕ) (t : List ℕ) → take r t ≡ take (length (take r t)) t
take_own zero t = refl
take_own (suc r) [] = refl
take_own (suc r) (b ∷ t) = ap (λ l. b ∷ l) (take_own r t)

-- What is promised of the line of that number, counted from 1.
pub record IsLine (text nowhere : Bor (List ℕ)) (n : ℕ) (line : Bor (List ℕ)) : Type 0 where
  pub value : line.now ≡ get_or ([] ∷ lines text.now) n []
  pub part : line.ref_ptr ≡ line_address text n nowhere.ref_ptr
  pub stands : StandsFrom (line_start n text.now) text.now line.now

module _ (text nowhere : Bor (List ℕ)) where
  line-there : (n : ℕ) → has_line n text.now ≡ true → IsLine text nowhere n (record { ref_ptr = beyond text.ref_ptr (line_start n text.now); now = line_from text.now (line_start n text.now) })
  line-there n h = record {
    value = sym (numbered-from-start text.now n h);
    part = sym (cond-true (has_line n text.now) _ _ h);
    stands = take_own (reach 10 (drop (line_start n text.now) text.now)) (drop (line_start n text.now) text.now);
  }

  line-nowhere : (n : ℕ) → nowhere.now ≡ [] → has_line n text.now ≡ false → IsLine text nowhere n nowhere
  line-nowhere n none h = record {
    value = none ∙ sym (numbered-none text.now n h);
    part = sym (cond-false (has_line n text.now) _ _ h);
    stands = none ∙ ap (λ l. take (length l) (drop (line_start n text.now) text.now)) (sym none);
  }

  -- what is found by its number less 1 is that line
  pub numbered : (n : ℕ) (before : Option ℕ) (found : Option (Bor (List ℕ))) → nowhere.now ≡ [] → SomeIff before (1 ≤ n) (n - 1) → MatchOption before (found ≡ None) (λ k. found ≡ slice_get (line_parts text) k) → IsLine text nowhere n (unwrap_or found nowhere)
  numbered n None found none first is =
      let P : Option (Bor (List ℕ)) → Type 0 = λ o. IsLine text nowhere n (unwrap_or o nowhere) in
      subst P (sym is) (line-nowhere n none (grind (arith, nat_tests)))
  numbered n (Some k) found none at is =
      let P : Option (Bor (List ℕ)) → Type 0 = λ o. IsLine text nowhere n (unwrap_or o nowhere) in
      let same = at.1 in
      ⊎_elim
      (λ lt.
      let line : ℕ → Option (Bor (List ℕ)) = λ start. Some (record { ref_ptr = beyond text.ref_ptr start; now = line_from text.now start }) in
      let there = is ∙ part-at text.ref_ptr (lines text.now) k lt ∙ ap (λ l. Some (record { ref_ptr = beyond text.ref_ptr (extent (take k (lines text.now))); now = l })) (line-from-start text.now k lt) ∙ ap (λ j. line (extent (take j (lines text.now)))) same in
      subst P (sym there) (line-there n (grind (arith, nat_tests))))
      (λ le. subst P (sym (is ∙ part-past text.ref_ptr (lines text.now) k le)) (line-nowhere n none (grind (arith, nat_tests))))
      (cases_lt k (length (lines text.now)))
