-- The parts of a line that `splitn` gives at its spaces, by the line's pieces.
--
--   parts_of      the pieces in at most so many parts: the last part is all pieces that are left, with a space between each two
--   splitn_steps  what a call of `next` on a `SplitN` gives
use Rattle.std.proofs.Common.{◌≡◌, ℕ, zero, suc, ◌-◌, ◌<◌, ◌≤◌, Bool, true, false, cond, ◌==◌, ◌⊎◌, List, [], ◌∷◌, ◌++◌, length, get_or, Option, MatchOption, Bor, refl, sym, ap, ◌∙◌, subst, ⊎_elim, true≢false, arith}
use Rattle.std.specs.Bool.{MatchBool}
use Rattle.std.specs.Fn.{ComputesKey, CalledAt, Mut}
use Rattle.std.specs.List.{All, IsFirstMatchOrLen, join_with_byte, slice_split}
use Rattle.std.specs.Slice.Iter.{split_rest, split_done, split_callee, splitn_parts, splitn_count}
use Rattle.std.specs.declared.slice.SplitN.{SplitN}
use Rattle.std.proofs.lemmas.Bool.{and_left, and_right}
use Rattle.std.proofs.lemmas.Fn.{always_returns_same}
use Rattle.std.proofs.lemmas.Grind.{common_steps}
use Rattle.std.proofs.lemmas.Iterator.{YieldsList}
use Rattle.std.proofs.lemmas.Iterator.Splits.{YieldsList-from_shown_while}
use Rattle.std.proofs.lemmas.List.Folds.{list_all-append}
use Rattle.std.proofs.lemmas.List.Splits.{join_with_byte-slice_split, length-slice_split, slice_split_at, slice_split_none}
use Rattle.fields.specs.Fields.{all_visible, filled, visible}
use Rattle.fields.specs.Forms.{all_filled}
use Rattle.fields.proofs.Held.{split-pieces}
use Rattle.texts.specs.Lines.{pieces}

abbrev pub parts_of : ℕ → List (List ℕ) → List (List ℕ)
parts_of zero ps = []
parts_of (suc n) [] = []
parts_of (suc zero) (p ∷ ps) = join_with_byte 32 (p ∷ ps) ∷ []
parts_of (suc (suc n)) (p ∷ ps) = p ∷ parts_of (suc n) ps

-- no more pieces than parts: each is a part
pub parts-few : (n : ℕ) (ps : List (List ℕ)) → length ps ≤ n → parts_of n ps ≡ ps
parts-few zero [] few = refl
parts-few zero (p ∷ ps) few = absurd (omega arith)
parts-few (suc n) [] few = refl
parts-few (suc zero) (p ∷ []) few = refl
parts-few (suc zero) (p ∷ q ∷ ps) few = absurd (omega arith)
parts-few (suc (suc n)) (p ∷ ps) few = ap (λ l. p ∷ l) (parts-few (suc n) ps (omega arith))

-- what holds a space is no field
spaced-not-filled : (p r : List ℕ) → filled (p ++ 32 ∷ r) ≡ false
spaced-not-filled p r = and_right _ _ (list_all-append visible p (32 ∷ r) ∙ and_right (all_visible p) _ refl)

-- more pieces than parts: the last part holds a space
pub parts-many : (n : ℕ) (ps : List (List ℕ)) → 0 < n → n < length ps → all_filled (parts_of n ps) ≡ false
parts-many zero ps some many = absurd (omega arith)
parts-many (suc n) [] some many = absurd (omega arith)
parts-many (suc zero) (p ∷ []) some many = absurd (omega arith)
parts-many (suc zero) (p ∷ q ∷ ps) some many = and_left _ _ (spaced-not-filled p (join_with_byte 32 (q ∷ ps)))
parts-many (suc (suc n)) (p ∷ ps) some many = and_right (filled p) _ (parts-many (suc n) ps (omega arith) (omega arith))

-- the pieces of a line with a space between each two are the line
joined : (s : List ℕ) → join_with_byte 32 (pieces s) ≡ s
joined s = ap (join_with_byte 32) (sym (split-pieces s)) ∙ join_with_byte-slice_split 32 s

-- one part is the line
one-part : (s : List ℕ) → parts_of 1 (pieces s) ≡ s ∷ []
one-part s = at_some (pieces s) (let n = length-slice_split (λ b. b == 32) s in let e = ap length (split-pieces s) in omega arith) ∙ ap (λ l. l ∷ []) (joined s)
  where
    at_some : (ps : List (List ℕ)) → 0 < length ps → parts_of 1 ps ≡ join_with_byte 32 ps ∷ []
    at_some [] some = absurd (omega arith)
    at_some (p ∷ ps) some = refl

-- no pieces give no part
no-part : (n : ℕ) → parts_of n [] ≡ []
no-part zero = refl
no-part (suc n) = refl

-- what stands before the first space is the first piece, and what stands after it gives the others
first-piece : (s x next : List ℕ) (done : Bool) → MatchBool done (s ≡ x) ((y : ℕ) × (s ≡ x ++ (y ∷ next))) → IsFirstMatchOrLen (λ b. b == 32) s (length x) → pieces s ≡ x ∷ cond done [] (pieces next)
first-piece s x next true e h =
    sym (split-pieces s) ∙ ap (slice_split (λ b. b == 32)) e
    ∙ slice_split_none (λ b. b == 32) x (λ k d l. subst (λ ys. (get_or ys k d == 32) ≡ false) e (h.0 k d (omega arith) l))
first-piece s x next false e h =
    let front : All (λ z. (z == 32) ≡ false) x = λ k d l. let a = h.0 k d (omega arith) l in let b = e.1 in grind (arith, common_steps) in
    let hit : (e.0 == 32) ≡ true = let b = e.1 in let a = h.1 (grind (arith, common_steps)) e.0 in grind (arith, common_steps) in
    sym (split-pieces s) ∙ ap (slice_split (λ b. b == 32)) e.1 ∙ slice_split_at (λ b. b == 32) x e.0 next front hit ∙ ap (λ ps. x ∷ ps) (split-pieces next)

-- one call takes off the first part
next-part : (n : ℕ) (s x next : List ℕ) (done : Bool) → 0 < n → (n ≡ 1 → done ≡ true) → MatchBool done (s ≡ x) ((y : ℕ) × (s ≡ x ++ (y ∷ next))) → (1 < n → IsFirstMatchOrLen (λ b. b == 32) s (length x))
    → parts_of n (pieces s) ≡ x ∷ parts_of (n - 1) (cond done [] (pieces next))
next-part zero s x next done some last e h = absurd (omega arith)
next-part (suc zero) s x next true some last e h = one-part s ∙ ap (λ l. l ∷ []) e
next-part (suc zero) s x next false some last e h = absurd (true≢false (sym (last refl)))
next-part (suc (suc n)) s x next done some last e h =
    let less : suc n ≡ suc (suc n) - 1 = omega arith in
    ap (parts_of (suc (suc n))) (first-piece s x next done e (h (omega arith))) ∙ ap (λ m. x ∷ parts_of m (cond done [] (pieces next))) less

module _ {F : Type 0} (g : Mut F (Bor ℕ × Unit {0}) Bool) where
  abbrev pub splitn_steps : SplitN ℕ F → Option (Bor (List ℕ)) → SplitN ℕ F → Type 0
  splitn_steps s r t = (splitn_count t ≡ splitn_count s - 1)
      × MatchOption r ((splitn_count s ≡ 0) ⊎ (split_done (splitn_parts s) ≡ true))
      (λ x. (0 < splitn_count s) × (splitn_count s ≡ 1 → split_done (splitn_parts t) ≡ true)
      × MatchBool (split_done (splitn_parts t)) (split_rest (splitn_parts s) ≡ x.now) ((y : ℕ) × (split_rest (splitn_parts s) ≡ x.now ++ (y ∷ split_rest (splitn_parts t))))
      × (split_done (splitn_parts s) ≡ false)
      × (1 < splitn_count s → (p : ℕ → Bool) → ComputesKey g p (split_callee (splitn_parts s)) → ComputesKey g p (split_callee (splitn_parts t)) × IsFirstMatchOrLen p (split_rest (splitn_parts s)) (length x.now)))

  -- the parts that are left
  abbrev parts_left : SplitN ℕ F → List (List ℕ)
  parts_left s = parts_of (splitn_count s) (cond (split_done (splitn_parts s)) [] (pieces (split_rest (splitn_parts s))))

  -- a line that is cut at its spaces; the first four facts are the clauses `rest`, `done`, `closure` and `count`
  pub YieldsList-from_splitn : {s : SplitN ℕ F} {f : F} (n : ℕ) (line : List ℕ) → split_rest (splitn_parts s) ≡ line → split_done (splitn_parts s) ≡ false → split_callee (splitn_parts s) ≡ f → splitn_count s ≡ n
      → ((b : ℕ) (r : Bool) (q : F) → CalledAt g f b r q → (q ≡ f) × (r ≡ (b == 32))) → YieldsList splitn_steps (λ x. x.now) s (parts_of n (pieces line))
  YieldsList-from_splitn {s} {f} n line rest done closure count tests =
      let space : ComputesKey g (λ b. b == 32) f = always_returns_same g (λ a r. r ≡ (a.0.now == 32)) f (λ a r q k. let m = tests a.0.now r q (record { shown = a.0; shows = refl; called = k }) in (m.1, m.0)) in
      subst (YieldsList splitn_steps (λ x. x.now) s) (λ i. parts_of (count i) (cond (done i) [] (pieces (rest i))))
      (YieldsList-from_shown_while splitn_steps (λ x. x.now) parts_left (λ t. 0 < splitn_count t → ComputesKey g (λ b. b == 32) (split_callee (splitn_parts t)))
      (λ t u h k. ⊎_elim (λ none. ap (λ m. length (parts_of m (cond (split_done (splitn_parts t)) [] (pieces (split_rest (splitn_parts t)))))) none)
      (λ over. ap (λ b. length (parts_of (splitn_count t) (cond b [] (pieces (split_rest (splitn_parts t)))))) over ∙ ap length (no-part (splitn_count t))) k.1)
      (λ t x u h k. (
        λ some. let more : 1 < splitn_count t = omega (arith, k.0) in (k.1.4 more (λ b. b == 32) (h k.1.0)).0,
        ap (λ b. parts_of (splitn_count t) (cond b [] (pieces (split_rest (splitn_parts t))))) k.1.3
            ∙ next-part (splitn_count t) _ x.now (split_rest (splitn_parts u)) (split_done (splitn_parts u)) k.1.0 k.1.1 k.1.2 (λ more. (k.1.4 more (λ b. b == 32) (h k.1.0)).1)
            ∙ ap (λ m. x.now ∷ parts_of m (cond (split_done (splitn_parts u)) [] (pieces (split_rest (splitn_parts u))))) (sym k.0),
      ))
      s (λ some. subst (ComputesKey g (λ b. b == 32)) (sym closure) space))
