-- What a closure that compares two places is to answer.
use Rattle.std.specs.Prelude.{◌≡◌, ℕ, ◌<◌, Bool}

-- whatever the calls answer about two places below n is what the test says of them
abbrev pub AnswersAs : (ℕ → ℕ → Bool) → ℕ → (ℕ → ℕ → Bool → Type 0) → Type 0
AnswersAs test n answers = (one other : ℕ) (r : Bool) → one < n → other < n → answers one other r → r ≡ test one other
