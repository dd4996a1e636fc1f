-- The computed least number is exactly the least that meets the need, and the search that jumps ahead keeps track of it.
use Rattle.std.proofs.Common.{◌≡◌, ℕ, zero, suc, ◌+◌, ◌<◌, ◌≤◌, min, true, false, leb, Some, None, refl, ap, ◌∙◌, ⊎_elim, arith}
use Rattle.std.proofs.lemmas.Bool.{cases_Bool, cases_lt, leb-false, leb-true}
use Rattle.bounds.specs.Least.{Exactly, Least, Least-is-exact, Meets, Rises, least, least_from, longest}

-- every number from 1 to below t is less than the need within it
abbrev pub Below : (ℕ → ℕ) → ℕ → Type 0
Below need t = (s : ℕ) → 1 ≤ s → s < t → s < need s

module _ (need : ℕ → ℕ) (limit : ℕ) where
  is-least : (t : ℕ) → Meets need limit t → Below need t → Least need limit t
  is-least t m below =
      record {
        meets = m;
        first = λ s h. ⊎_elim (λ (k : s < t). absurd (omega (arith, below s h.from k, h.met))) (λ k. k) (cases_lt s t);
      }

  none-meets-past : (t : ℕ) → limit < t → Below need t → (s : ℕ) → Meets need limit s → ⊥
  none-meets-past t past below s h = omega (arith, below s h.from (omega (arith, h.within)), h.met)

  exactly-some : (t : ℕ) → Least need limit t → Exactly need limit (Some t)
  exactly-some t l =
      record {
        some-least = λ u e. let same : t ≡ u = cc in rw (← same) l;
        least-some = λ u h. let same : t ≡ u = omega (arith, l.first u h.meets, h.first t l.meets) in ap Some same;
        none-meets = λ e. absurd (let z : ◌≡◌ {A = ℕ} 0 1 = cc in omega arith);
        meets-none = λ never. absurd (never t l.meets);
      }

  exactly-none : ((t : ℕ) → Meets need limit t → ⊥) → Exactly need limit None
  exactly-none never =
      record {
        some-least = λ t e. absurd (let z : ◌≡◌ {A = ℕ} 0 1 = cc in omega arith);
        least-some = λ t h. absurd (never t h.meets);
        none-meets = λ e. never;
        meets-none = λ h. refl;
      }

  from-exactly : (n t : ℕ) → 1 ≤ t → t + n ≡ limit + 1 → Below need t → Exactly need limit (least_from need n t)
  from-exactly zero t a b below = exactly-none (none-meets-past t (omega arith) below)
  from-exactly (suc n) t a b below =
      ⊎_elim
      (λ (e : leb (need t) t ≡ true). rw e
      (exactly-some t (is-least t (record { from = a; within = omega arith; met = leb-true _ _ e }) below)))
      (λ (e : leb (need t) t ≡ false). rw e
      (from-exactly n (t + 1) (omega arith) (omega arith)
      (λ s p q. ⊎_elim (λ (h : s < t). below s p h) (λ (h : t ≤ s). let same : s ≡ t = omega arith in rw same (leb-false _ _ e)) (cases_lt s t))))
      (cases_Bool (leb (need t) t))

pub least-is-exact : Least-is-exact
least-is-exact need limit = from-exactly need limit limit 1 (omega arith) (omega arith) (λ s p q. absurd (omega arith))

module _ (need : ℕ → ℕ) where
  -- a span that is counted is taken as it is
  pub uncut : (t n : ℕ) → t ≤ longest → n ≡ need (min t longest) → n ≡ need t
  uncut t n h e = let same : min t longest ≡ t = omega arith in e ∙ ap need same

  -- a jump from t to the need within t passes no number that meets it
  pub jump : Rises need → (t n : ℕ) → n ≡ need t → Below need t → Below need n
  jump rises t n e below s p q =
      ⊎_elim (λ (h : s < t). below s p h) (λ (h : t ≤ s). omega (arith, rises t s h)) (cases_lt s t)

  -- the first number that the search finds to meet the need is the least
  pub found : (limit t : ℕ) → Meets need limit t → Below need t → least need limit ≡ Some t
  found limit t m below = (least-is-exact need limit).least-some t (is-least need limit t m below)

  -- a search past the limit shows that there is none
  pub missing : (limit t : ℕ) → limit < t → Below need t → least need limit ≡ None
  missing limit t past below = (least-is-exact need limit).meets-none (none-meets-past need limit t past below)
