-- The least number of ticks that is no less than the need within it: computed, and as a property.
use Rattle.std.specs.Prelude.{◌≡◌, ℕ, zero, suc, ◌+◌, ◌≤◌, cond, Some, None, Option, nat_le}

-- the most ticks that are counted
abbrev pub longest : ℕ
longest = 10000000000

-- f never falls as its argument rises
abbrev pub Rises : (ℕ → ℕ) → Type 0
Rises f = (a b : ℕ) → a ≤ b → f a ≤ f b

-- t is 1 to the limit, and the need within t is at most t
pub record Meets (need : ℕ → ℕ) (limit t : ℕ) : Type 0 where
  pub from : 1 ≤ t
  pub within : t ≤ limit
  pub met : need t ≤ t

-- t meets the need, and none below t does
pub record Least (need : ℕ → ℕ) (limit t : ℕ) : Type 0 where
  pub meets : Meets need limit t
  pub first : (s : ℕ) → Meets need limit s → t ≤ s

-- the first of the n numbers from t on that is no less than the need within it
abbrev pub least_from : (ℕ → ℕ) → ℕ → ℕ → Option ℕ
least_from need zero t = None
least_from need (suc n) t = cond (nat_le (need t) t) (Some t) (least_from need n (t + 1))

-- the first number from 1 to the limit that is no less than the need within it
abbrev pub least : (ℕ → ℕ) → ℕ → Option ℕ
least need limit = least_from need limit 1

-- r is Some t exactly if t is the least that meets the need, and None exactly if no t meets it
pub record Exactly (need : ℕ → ℕ) (limit : ℕ) (r : Option ℕ) : Type 0 where
  pub some-least : (t : ℕ) → r ≡ Some t → Least need limit t
  pub least-some : (t : ℕ) → Least need limit t → r ≡ Some t
  pub none-meets : r ≡ None → (t : ℕ) → Meets need limit t → ⊥
  pub meets-none : ((t : ℕ) → Meets need limit t → ⊥) → r ≡ None

-- the computed least number is exactly the least that meets the need
abbrev pub Least-is-exact : Type 0
Least-is-exact = (need : ℕ → ℕ) (limit : ℕ) → Exactly need limit (least need limit)
