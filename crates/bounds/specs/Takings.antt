-- What tasks take never falls as the span grows, and what one takes is at most the span and a period.
use Rattle.std.specs.Prelude.{◌≡◌, ℕ, zero, suc, ◌+◌, ◌*◌, ◌<◌, ◌≤◌, List, [], ◌∷◌, ◌++◌, length, get_or, slice_index_or, refl}
use Rattle.std.proofs.Common.{ap, ◌∙◌, add-one, mul-le-mul_right, arith}
use Rattle.std.proofs.lemmas.List.{get_or_append_left, get_or_push, get_or_read, length_push}
use Rattle.bounds.specs.declared.term.Term.{Term}
use Rattle.bounds.specs.Interference.{idle, interference, taken}
use Rattle.bounds.specs.Least.{Rises, longest}
use Rattle.bounds.specs.Sums.{sum_to}
use Rattle.bounds.specs.Ceil.{ceil-mono, term-under}

pub sum_to-more : (f : ℕ → ℕ) (n : ℕ) → sum_to f (n + 1) ≡ sum_to f n + f n
sum_to-more f n = rw add-one

-- a sum asks of its terms below n alone
pub sum_to-same : (f g : ℕ → ℕ) (n : ℕ) → ((i : ℕ) → i < n → f i ≡ g i) → sum_to f n ≡ sum_to g n
sum_to-same f g zero h = refl
sum_to-same f g (suc n) h = let k = sum_to-same f g n (λ i l. h i (omega arith)) in omega (arith, h n (omega arith))

sum_to-mono : (f g : ℕ → ℕ) → ((i : ℕ) → f i ≤ g i) → (n : ℕ) → sum_to f n ≤ sum_to g n
sum_to-mono f g h zero = omega arith
sum_to-mono f g h (suc n) = let k = sum_to-mono f g h n in omega (arith, h n)

-- what the first n of the tasks take
abbrev pub taken_to : List Term → ℕ → ℕ → ℕ
taken_to terms t n = sum_to (λ i. taken (slice_index_or terms i idle) t) n

-- one more task adds what it takes
pub taken_to-more : (terms : List Term) (t n sum x : ℕ) (term : Term) → n < length terms → term ≡ slice_index_or terms n term →
    sum ≡ taken_to terms t n → x ≡ taken term t → sum + x ≡ taken_to terms t (n + 1)
taken_to-more terms t n sum x term lt at e ex =
    let r : term ≡ get_or terms n idle = get_or_read terms n term lt at idle in
    let y : x ≡ taken (slice_index_or terms n idle) t = ex ∙ ap (λ (q : Term). taken q t) r in
    rw sum_to-more (omega arith)

-- one task more at the end adds what it takes
pub interference-push : (terms : List Term) (x : Term) (t : ℕ) → interference (terms ++ x ∷ []) t ≡ interference terms t + taken x t
interference-push terms x t =
    let all : ℕ → ℕ = λ i. taken (slice_index_or (terms ++ x ∷ []) i idle) t in
    ap (sum_to all) (length_push terms x) ∙ sum_to-more all (length terms)
    ∙ ap (λ (n : ℕ). n + all (length terms))
    (sum_to-same all (λ i. taken (slice_index_or terms i idle) t) (length terms) (λ i l. ap (λ (q : Term). taken q t) (get_or_append_left terms (x ∷ []) idle i l)))
    ∙ ap (λ (q : Term). interference terms t + taken q t) (get_or_push terms x idle (length terms) refl)

pub taken-under : (term : Term) (t : ℕ) → t ≤ longest → taken term t ≤ 2 * longest
taken-under term t h = omega (arith, term-under t term.period term.length term.fits, term.counted)

taken-rises : (term : Term) → Rises (taken term)
taken-rises term a b h = mul-le-mul_right term.length (ceil-mono term.period a b term.some h)

pub interference-rises : (terms : List Term) → Rises (interference terms)
interference-rises terms a b h = sum_to-mono _ _ (λ i. taken-rises (slice_index_or terms i idle) a b h) (length terms)
