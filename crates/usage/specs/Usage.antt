-- What is worked out of a table for a resource, told by its place.
--
--   uses     whether a task uses the resource
--   users    how many tasks use it
--   ceiling  the best rank among its users; none without users
--   share    a task's critical length in millionths of its period, rounded up
--   load     the sum of its users' shares
use Rattle.std.specs.Prelude.{ℕ, ◌+◌, ◌*◌, ◌/◌, ◌%◌, min, Bool, false, cond, List, [], ◌∷◌, Some, None, Option, ◌==◌}
use Rattle.tables.specs.Rows.{Row}

-- whether that is the place of a task's resource
abbrev pub points_at : ℕ → Option ℕ → Bool
points_at i None = false
points_at i (Some k) = k == i

abbrev pub uses : ℕ → Row → Bool
uses i r = points_at i r.resource

-- the sum of f over the users
abbrev pub over_users : (Row → ℕ) → ℕ → List Row → ℕ
over_users f i [] = 0
over_users f i (r ∷ rs) = cond (uses i r) (f r) 0 + over_users f i rs

abbrev pub users : ℕ → List Row → ℕ
users i rs = over_users (λ _. 1) i rs

-- a divided by b, rounded up
abbrev pub rounded_up : ℕ → ℕ → ℕ
rounded_up a b = a / b + min 1 (a % b)

abbrev pub share : Row → ℕ
share r = rounded_up (1000000 * r.critical) r.period

abbrev pub load : ℕ → List Row → ℕ
load i rs = over_users share i rs

-- the first of the users, where the first row has rank k
abbrev pub first_user : ℕ → ℕ → List Row → Option ℕ
first_user k i [] = None
first_user k i (r ∷ rs) = cond (uses i r) (Some k) (first_user (k + 1) i rs)

abbrev pub ceiling : ℕ → List Row → Option ℕ
ceiling i rs = first_user 0 i rs
