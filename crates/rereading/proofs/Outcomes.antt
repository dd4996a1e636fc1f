-- What a step that went well says of the steps before it.
use Rattle.std.proofs.Common.{◌≡◌, Bool, true, false, cond, Ok, Err, Result, refl, ap}
use Rattle.entries.specs.Entries.{◌then◌}

-- no fault is an answer
pub never : {Z X E : Type 0} (e : E) (x : X) → ◌≡◌ {A = Result X E} (Err e) (Ok x) → Z
never e x p = absurd (cc)

module _ {X E : Type 0} where
  -- where there is an answer, the test for a fault failed
  pub passed : (b : Bool) (e : E) (r : Result X E) (x : X) → cond b (Err e) r ≡ Ok x → (b ≡ false) × (r ≡ Ok x)
  passed true e r x h = never e x h
  passed false e r x h = (refl, h)

  -- where there is an answer after two steps, the first had one
  pub went : {Y : Type 0} (r : Result X E) (next : X → Result Y E) (y : Y) → (r then next) ≡ Ok y → (x : X) × (r ≡ Ok x) × (next x ≡ Ok y)
  went (Ok x) next y h = (x, refl, h)
  went (Err e) next y h = never e y h

  -- a step that has an answer goes on with it
  pub goes : {Y : Type 0} (r : Result X E) (next : X → Result Y E) (x : X) → r ≡ Ok x → (r then next) ≡ next x
  goes r next x h = ap (λ s. s then next) h

  -- equal answers are answers of equals
  pub inner : (x y : X) → ◌≡◌ {A = Result X E} (Ok x) (Ok y) → x ≡ y
  inner x y h = cc
