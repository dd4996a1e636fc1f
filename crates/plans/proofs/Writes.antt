-- Writing the figures of one task after another to the front of a row.
--
--   sofar       the row with the figures of the first i tasks
--   sofar-more  one task more
use Rattle.std.proofs.Common.{◌≡◌, ℕ, ◌+◌, ◌*◌, ◌<◌, List, [], ◌∷◌, ◌++◌, length, get_or, take, drop, sym, refl, ap, ◌∙◌, arith}
use Rattle.std.proofs.lemmas.List.{append_assoc, take_more, length-take-le, take_at, drop_at, drop-drop}
use borrow.Rule.Slice.PartMut.{put_mid}
use Rattle.analysis.specs.declared.part.Bounds.{Bounds}
use Rattle.analysis.specs.Weighing.{no_bounds}
use Rattle.plans.specs.Figures.{figures}

figures-push : (bs : List Bounds) (b : Bounds) → figures (bs ++ b ∷ []) ≡ figures bs ++ figures (b ∷ [])
figures-push [] b = refl
figures-push (x ∷ bs) b = ap (λ (r : List ℕ). figures (x ∷ []) ++ r) (figures-push bs b)

pub length-figures : (bs : List Bounds) → length (figures bs) ≡ 4 * length bs
length-figures [] = refl
length-figures (x ∷ bs) = let e = length-figures bs in omega arith

-- the row with the first i tasks written
abbrev pub sofar : List Bounds → List ℕ → ℕ → List ℕ
sofar bs r i = figures (take i bs) ++ drop (4 * i) r

pub sofar-more : (bs : List Bounds) (r s ys : List ℕ) (i k : ℕ) → i < length bs → k ≡ 4 → s ≡ sofar bs r i → ys ≡ figures (get_or bs i no_bounds ∷ [])
    → put_mid (4 * i) k s ys ≡ sofar bs r (i + 1)
sofar-more bs r s ys i k lt width e written =
    let written-before = figures (take i bs) in
    let long : length written-before ≡ 4 * i = length-figures (take i bs) ∙ ap (λ (m : ℕ). 4 * m) (length-take-le i bs (omega arith)) in
    let front : take (4 * i) s ≡ written-before = ap (take (4 * i)) e ∙ take_at written-before (drop (4 * i) r) (4 * i) long in
    let back : drop k (drop (4 * i) s) ≡ drop (4 * (i + 1)) r =
    ap (λ l. drop k (drop (4 * i) l)) e ∙ ap (drop k) (drop_at written-before (drop (4 * i) r) (4 * i) long) ∙ drop-drop k (4 * i) r ∙ ap (λ m. drop m r) (omega arith)
    in
    let grown : figures (take (i + 1) bs) ≡ written-before ++ ys =
    ap figures (take_more bs i no_bounds lt) ∙ figures-push (take i bs) (get_or bs i no_bounds) ∙ ap (λ l. written-before ++ l) (sym written)
    in
    ap (λ l. l ++ (ys ++ drop k (drop (4 * i) s))) front ∙ ap (λ l. written-before ++ (ys ++ l)) back
    ∙ sym (append_assoc written-before ys (drop (4 * (i + 1)) r)) ∙ ap (λ l. l ++ drop (4 * (i + 1)) r) (sym grown)
