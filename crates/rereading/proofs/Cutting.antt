-- Fields that are joined by spaces, and lines that end in LF, are cut where they were joined.
use Rattle.std.proofs.Common.{◌≡◌, ℕ, ◌≤◌, true, false, eqb, leb, List, [], ◌∷◌, ◌++◌, length, refl, ap, ◌∙◌, arith}
use Rattle.std.proofs.lemmas.List.{append_assoc, append-nil}
use Rattle.std.proofs.lemmas.Bool.{and_parts, cond-false, leb-true, ne_eqb}
use Rattle.fields.specs.Fields.{visible, all_visible, filled}
use Rattle.fields.specs.Forms.{all_filled}
use Rattle.texts.specs.Lines.{lines, pieces, onto}
use Rattle.writing.specs.Lines.{spaced_on, spaced, line_of}

-- a separator stands nowhere in s
abbrev pub Lacks : ℕ → List ℕ → Type 0
Lacks sep [] = Unit {0}
Lacks sep (b ∷ s) = (eqb b sep ≡ false) × Lacks sep s

lacks-append : (sep : ℕ) (a b : List ℕ) → Lacks sep a → Lacks sep b → Lacks sep (a ++ b)
lacks-append sep [] b p q = q
lacks-append sep (x ∷ a) b p q = (p.0, lacks-append sep a b p.1 q)

-- visible bytes lack each separator below them
visible-lacks : (sep : ℕ) → sep ≤ 32 → (s : List ℕ) → all_visible s ≡ true → Lacks sep s
visible-lacks sep h [] v = tt
visible-lacks sep h (b ∷ s) v =
    let p = and_parts (visible b) (all_visible s) v in
    let q = and_parts (leb 33 b) (leb b 126) p.0 in
    let l = leb-true 33 b q.0 in
    (ne_eqb b sep (λ e. omega arith), visible-lacks sep h s p.1)

piece-off : (f s : List ℕ) → Lacks 32 f → pieces (f ++ 32 ∷ s) ≡ f ∷ pieces s
piece-off [] s h = refl
piece-off (b ∷ f) s h = cond-false (eqb b 32) _ _ h.0 ∙ ap (onto b) (piece-off f s h.1)

last-piece : (f : List ℕ) → Lacks 32 f → pieces f ≡ f ∷ []
last-piece [] h = refl
last-piece (b ∷ f) h = cond-false (eqb b 32) _ _ h.0 ∙ ap (onto b) (last-piece f h.1)

line-off : (l s : List ℕ) → Lacks 10 l → lines (l ++ 10 ∷ s) ≡ l ∷ lines s
line-off [] s h = refl
line-off (b ∷ l) s h = cond-false (eqb b 10) _ _ h.0 ∙ ap (onto b) (line-off l s h.1)

-- what a field lacks
field-lacks : (sep : ℕ) → sep ≤ 32 → (f : List ℕ) → filled f ≡ true → Lacks sep f
field-lacks sep h f v = visible-lacks sep h f (and_parts (leb 1 (length f)) (all_visible f) v).1

pieces-on : (f : List ℕ) (fs : List (List ℕ)) → filled f ≡ true → all_filled fs ≡ true → pieces (f ++ spaced_on fs) ≡ f ∷ fs
pieces-on f [] p q = ap pieces (append-nil f) ∙ last-piece f (field-lacks 32 (omega arith) f p)
pieces-on f (g ∷ gs) p q =
    let r = and_parts (filled g) (all_filled gs) q in
    piece-off f (g ++ spaced_on gs) (field-lacks 32 (omega arith) f p) ∙ ap (λ ps. f ∷ ps) (pieces-on g gs r.0 r.1)

-- the pieces of a line are its fields
pub pieces-spaced : (f : List ℕ) (fs : List (List ℕ)) → all_filled (f ∷ fs) ≡ true → pieces (spaced (f ∷ fs)) ≡ f ∷ fs
pieces-spaced f fs h = let p = and_parts (filled f) (all_filled fs) h in pieces-on f fs p.0 p.1

lacks-on : (fs : List (List ℕ)) → all_filled fs ≡ true → Lacks 10 (spaced_on fs)
lacks-on [] h = tt
lacks-on (f ∷ fs) h =
    let p = and_parts (filled f) (all_filled fs) h in
    (refl, lacks-append 10 f (spaced_on fs) (field-lacks 10 (omega arith) f p.0) (lacks-on fs p.1))

-- the first line of a text that begins with a line
pub lines-spaced : (f : List ℕ) (fs : List (List ℕ)) (s : List ℕ) → all_filled (f ∷ fs) ≡ true → lines (line_of (f ∷ fs) ++ s) ≡ spaced (f ∷ fs) ∷ lines s
lines-spaced f fs s h =
    let p = and_parts (filled f) (all_filled fs) h in
    ap lines (append_assoc (spaced (f ∷ fs)) (10 ∷ []) s)
    ∙ line-off (spaced (f ∷ fs)) s (lacks-append 10 f (spaced_on fs) (field-lacks 10 (omega arith) f p.0) (lacks-on fs p.1))
