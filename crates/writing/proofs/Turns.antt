-- Writing things one after another.
use Rattle.std.proofs.Common.{◌≡◌, ℕ, ◌+◌, ◌<◌, ◌≤◌, List, [], ◌∷◌, ◌++◌, map, length, get_or, take, sym, ap, ◌∙◌, append_assoc, append-nil, arith}
use Rattle.std.proofs.lemmas.List.{get_or-map, length-map, length-take-le, take_more}
use Rattle.writing.specs.Lines.{in_turn}

-- one more at the end
in_turn-append : {X : Type 0} (f : ℕ → X → List ℕ) (k : ℕ) (xs : List X) (x : X) → in_turn f k (xs ++ x ∷ []) ≡ in_turn f k xs ++ f (k + length xs) x
in_turn-append {X} f k [] x =
    let place : k ≡ k + length {A = X} [] = omega arith in
    append-nil (f k x) ∙ ap (λ n. f n x) place
in_turn-append f k (y ∷ ys) x =
    let place : k + 1 + length ys ≡ k + length (y ∷ ys) = omega arith in
    ap (λ l. f k y ++ l) (in_turn-append f (k + 1) ys x ∙ ap (λ n. in_turn f (k + 1) ys ++ f n x) place)
    ∙ sym (append_assoc (f k y) (in_turn f (k + 1) ys) (f (k + length (y ∷ ys)) x))

-- what is written of the first, and then of the next, is what is written of one more
pub turn_more : {X Y : Type 0} (f : ℕ → Y → List ℕ) (g : X → Y) (xs : List X) (i : ℕ) (x : X) (start before after : List ℕ) → i < length xs → x ≡ get_or xs i x → before ≡ start ++ in_turn f 0 (take i (map g xs)) → after ≡ before ++ f i (g x) → after ≡ start ++ in_turn f 0 (take (i + 1) (map g xs))
turn_more f g xs i x start before after h is e more =
    let turns = in_turn f 0 (take i (map g xs)) in
    let long : i ≤ length (map g xs) = simp length-map (omega arith) in
    let place : 0 + length (take i (map g xs)) ≡ i = omega (arith, length-take-le i (map g xs) long) in
    let one_more : take (i + 1) (map g xs) ≡ take i (map g xs) ++ g x ∷ [] =
    take_more (map g xs) i (g x) (simp length-map h)
    ∙ ap (λ y. take i (map g xs) ++ y ∷ []) (get_or-map g xs i x (g x) h ∙ ap g (sym is))
    in
    let written : in_turn f 0 (take (i + 1) (map g xs)) ≡ turns ++ f i (g x) =
    ap (in_turn f 0) one_more ∙ in_turn-append f 0 (take i (map g xs)) (g x) ∙ ap (λ n. turns ++ f n (g x)) place
    in
    more ∙ ap (λ l. l ++ f i (g x)) e ∙ append_assoc start turns (f i (g x)) ∙ ap (λ l. start ++ l) (sym written)
