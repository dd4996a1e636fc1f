-- Looking for a name among others.
use Rattle.std.proofs.Common.{◌≡◌, ℕ, ◌+◌, ◌<◌, true, false, cond, ◌||◌, List, [], ◌∷◌, map, length, get_or, drop, is_some, Some, None, Ok, Err, Option, Result, IfOk, sym, refl, ap, ◌∙◌, ⊎_elim, arith}
use Rattle.std.specs.List.{list_any, position_from}
use Rattle.std.specs.Str.{bytes_eq}
use Rattle.std.proofs.lemmas.Slice.Eq.{bytes_eq-Decides}
use Rattle.std.proofs.lemmas.List.{drop-map, drop_more}
use Rattle.std.proofs.lemmas.Bool.{cond-true, cond-false, cases_Bool, lt-ltb}
use Rattle.names.specs.Spelled.{spelled}
use Rattle.entries.specs.declared.fault.LineFault.{LineFault}
use Rattle.tables.specs.declared.task.Task.{Task}
use Rattle.tables.specs.Rows.{place_from, place_of, has, inside, row_names}
use Rattle.tables.specs.Rowed.{rows}
use Rattle.tables.specs.Reading.{or_unknown, resource_for}

pub different : (a b : List ℕ) → (a ≡ b → ⊥) → bytes_eq a b ≡ false
different a b ne = ⊎_elim (λ t. absurd (ne ((bytes_eq-Decides a b).0 t))) (λ f. f) (cases_Bool (bytes_eq a b))

-- what a list of things says, from one of them on
pub drop-first : {X Y : Type 0} (f : X → Y) (all : List X) (i : ℕ) (x : X) → i < length all → x ≡ get_or all i x → drop i (map f all) ≡ f x ∷ drop (i + 1) (map f all)
drop-first {X} f all i x h is =
    drop-map f i all ∙ ap (map f) (drop_more all i x h) ∙ ap (λ (y : X). f y ∷ map f (drop (i + 1) all)) (sym is)
    ∙ ap (λ l. f x ∷ l) (sym (drop-map f (i + 1) all))

-- a name among those of a list of things
module _ {X : Type 0} (f : X → List ℕ) (n : List ℕ) where
  pub has-any : (all : List X) → list_any (λ x. bytes_eq (f x) n) all ≡ has n (map f all)
  has-any [] = refl
  has-any (x ∷ xs) = ap (λ b. bytes_eq (f x) n || b) (has-any xs)

  pub place-position : (i : ℕ) (all : List X) → position_from (λ x. bytes_eq (f x) n) i all ≡ place_from i n (map f all)
  place-position i [] = refl
  place-position i (x ∷ xs) = ap (cond (bytes_eq (f x) n) (Some i)) (place-position (i + 1) xs)

-- what is there has a place
pub has-place : (i : ℕ) (n : List ℕ) (ms : List (List ℕ)) → is_some (place_from i n ms) ≡ has n ms
has-place i n [] = refl
has-place i n (m ∷ ms) =
    elim (bytes_eq m n) as (λ t. is_some (cond t (Some i) (place_from (i + 1) n ms)) ≡ (t || has n ms))
    [ true ↦ refl | false ↦ has-place (i + 1) n ms ]

-- and its place is one of theirs
pub place_inside : (i k : ℕ) (n : List ℕ) (ms : List (List ℕ)) → place_from i n ms ≡ Some k → k < i + length ms
place_inside i k n [] e = let z : ◌≡◌ {A = ℕ} 0 1 = cc in absurd (omega arith)
place_inside i k n (m ∷ ms) e =
    ⊎_elim
    (λ t. let is : ◌≡◌ {A = Option ℕ} (Some i) (Some k) = sym (cond-true (bytes_eq m n) (Some i) (place_from (i + 1) n ms) t) ∙ e in let same : i ≡ k = cc in omega arith)
    (λ f. omega (arith, place_inside (i + 1) k n ms (sym (cond-false (bytes_eq m n) (Some i) (place_from (i + 1) n ms) f) ∙ e)))
    (cases_Bool (bytes_eq m n))

pub row-names : (ts : List Task) → row_names (rows ts) ≡ map (λ (t : Task). spelled t.name) ts
row-names [] = refl
row-names (t ∷ ts) = ap (λ l. spelled t.name ∷ l) (row-names ts)

-- the resource that is found for a name is one of the table's
pub resource-inside : (rs : List (List ℕ)) (name : Option (List ℕ)) (g : Option ℕ) → resource_for rs name ≡ Ok g → inside (length rs) g ≡ true
resource-inside rs None g e = let same : None ≡ g = cc in ap (inside (length rs)) (sym same)
resource-inside rs (Some n) g e = known_at (place_of n rs) refl e
  where
    known_at : (o : Option ℕ) → place_of n rs ≡ o → or_unknown o ≡ Ok g → inside (length rs) g ≡ true
    known_at None at e = let z : ◌≡◌ {A = ℕ} 0 1 = cc in absurd (omega arith)
    known_at (Some i) at e =
        let same : Some i ≡ g = cc in
        ap (inside (length rs)) (sym same) ∙ lt-ltb i (length rs) (omega (arith, place_inside 0 i n rs at))

pub resource_within : (rs : List (List ℕ)) (name : Option (List ℕ)) (answer : Result (Option ℕ) LineFault) → answer ≡ resource_for rs name → IfOk answer (λ g. inside (length rs) g ≡ true)
resource_within rs name (Ok g) e = resource-inside rs name g (sym e)
resource_within rs name (Err x) e = tt
