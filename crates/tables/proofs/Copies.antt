-- Two lists whose elements are seen alike, one by one, are seen alike.
use Rattle.std.proofs.Common.{◌≡◌, List, [], ◌∷◌, Result, Ok, Err, IfOk, MatchResult, map, refl, ap, ◌∙◌, Vec, Global}
use Rattle.std.specs.List.{AllZip}

pub map-copies : {X Y : Type 0} (f : X → Y) (xs ys : List X) → AllZip (λ x y. f y ≡ f x) xs ys → map f ys ≡ map f xs
map-copies f [] [] h = refl
map-copies f [] (y ∷ ys) h = absurd h
map-copies f (x ∷ xs) [] h = absurd h
map-copies f (x ∷ xs) (y ∷ ys) h = ap (λ v. v ∷ map f ys) h.0 ∙ ap (λ l. f x ∷ l) (map-copies f xs ys h.1)

-- the copy of a vector, where there was memory for one
pub map-copied : {X Y E : Type 0} (f : X → Y) (xs : List X) (L : Vec X Global → Type 0) (Q : E → Type 0) (r : Result (Vec X Global) E) → MatchResult r (λ w. AllZip (λ x y. f y ≡ f x) xs w.items × L w) Q → IfOk r (λ w. map f w.items ≡ map f xs)
map-copied f xs L Q (Ok w) h = map-copies f xs w.items h.0
map-copied f xs L Q (Err e) h = tt
