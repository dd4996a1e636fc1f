-- Pieces of a line as references to its text.
use Rattle.std.proofs.Common.{◌≡◌, ℕ, zero, suc, List, [], ◌∷◌, get_or, refl, ap, ◌∙◌, Bor, ◌==◌, cond}
use Rattle.std.specs.List.{slice_split, onto_first}
use Rattle.fields.specs.Forms.{held}
use Rattle.texts.specs.Lines.{onto, pieces}

abbrev pub bytes : Bor (List ℕ) → List ℕ
bytes p = p.now

abbrev pub nowhere : Bor (List ℕ)
nowhere = record { ref_ptr = (0, 0); now = [] }

pub held_at : (xs : List (Bor (List ℕ))) (i : ℕ) → get_or (held xs) i [] ≡ (get_or xs i nowhere).now
held_at [] i = refl
held_at (x ∷ xs) zero = refl
held_at (x ∷ xs) (suc i) = held_at xs i

onto-first : (b : ℕ) (ps : List (List ℕ)) → onto_first b ps ≡ onto b ps
onto-first b [] = refl
onto-first b (p ∷ ps) = refl

-- the pieces of a line are what `split` gives at its spaces
pub split-pieces : (s : List ℕ) → slice_split (λ b. b == 32) s ≡ pieces s
split-pieces [] = refl
split-pieces (b ∷ s) = ap (λ ps. cond (b == 32) ([] ∷ ps) (onto_first b ps)) (split-pieces s) ∙ ap (cond (b == 32) ([] ∷ pieces s)) (onto-first b (pieces s))
