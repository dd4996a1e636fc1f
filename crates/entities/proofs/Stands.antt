-- Which entity stands at the front of a field.
use Rattle.std.proofs.Common.{◌≡◌, ℕ, ◌+◌, ◌<◌, false, eqb, List, [], ◌∷◌, length, get_or, refl, ⊎_elim, arith}
use Rattle.std.proofs.lemmas.List.{get_or_past}
use Rattle.std.proofs.lemmas.Bool.{and_left, and_right, cases_eq, cases_lt, ne_eqb}
use Rattle.entities.specs.Entities.{Entity, stands_at, single, width}

-- what `stands_at` tests
abbrev pub Stands : ℕ → List ℕ → List ℕ → Type 0
Stands i [] s = Unit {0}
Stands i (p ∷ ps) s = (get_or s i 0 ≡ p) × Stands (i + 1) ps s

pub stands-not : (i : ℕ) (ps s : List ℕ) → (Stands i ps s → ⊥) → stands_at i ps s ≡ false
stands-not i [] s h = absurd (h tt)
stands-not i (p ∷ ps) s h =
    ⊎_elim
    (λ e. and_right (eqb (get_or s i 0) p) _ (stands-not (i + 1) ps s (λ k. h (e, k))))
    (λ ne. and_left (eqb (get_or s i 0) p) _ (ne_eqb _ _ ne))
    (cases_eq (get_or s i 0) p)

-- a byte other than 0 lies inside
pub inside : (s : List ℕ) (i : ℕ) → 0 < get_or s i 0 → i < length s
inside s i h = ⊎_elim (λ l. l) (λ l. absurd (omega (arith, get_or_past s i 0 l))) (cases_lt i (length s))

pub single-some : (s : List ℕ) → 0 < length s → single s ≡ 1
single-some [] h = absurd (omega arith)
single-some (b ∷ s) h = refl
