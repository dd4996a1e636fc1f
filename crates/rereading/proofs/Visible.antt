-- The names of a text have visible bytes alone, and so has what is written of them.
use Rattle.std.proofs.Common.{◌≡◌, ℕ, zero, suc, ◌+◌, ◌-◌, ◌*◌, ◌≤◌, Bool, true, false, cond, ◌&&◌, eqb, leb, List, [], ◌∷◌, ◌++◌, length, get_or, Ok, Err, codes, Result, sym, refl, ap, ◌∙◌, arith}
use Rattle.std.specs.Str.{bytes_eq}
use Rattle.std.proofs.lemmas.List.{length-append}
use Rattle.std.proofs.lemmas.Bool.{and_parts, and_from, cond_both, le-leb, leb-true, true≢false}
use Rattle.names.specs.declared.fault.NameFault.{NameFault}
use Rattle.names.specs.declared.fault.NameFault.TheVariants.{Empty, BadEntity, TooLong, LoneHyphen}
use Rattle.entities.specs.Entities.{Entity, five, tail, stands_at, entity_width, entity_value, width, value, written_by, written}
use Rattle.names.specs.Names.{decoded_from, admitted, decoded, encoded, Lawful}
use Rattle.names.proofs.RoundTrip.{round_trip}
use Rattle.names.proofs.Steps.{decoded-lawful}
use Rattle.fields.specs.Fields.{visible, all_visible, filled}
use Rattle.tables.proofs.Places.{different}
use Rattle.rereading.proofs.Outcomes.{never, passed}

-- two parts of visible bytes make a whole of them
pub visible-append : (a b : List ℕ) → all_visible a ≡ true → all_visible b ≡ true → all_visible (a ++ b) ≡ true
visible-append [] b p q = q
visible-append (x ∷ a) b p q = let h = and_parts (visible x) (all_visible a) p in and_from (visible x) _ h.0 (visible-append a b h.1 q)

-- each entity of a table stands for a visible byte, and is at most five visible bytes after its `&`
abbrev showing : List Entity → Bool
showing [] = true
showing (e ∷ t) = (visible e.1 && (all_visible (tail e) && leb (length (tail e)) 5)) && showing t

entity-visible : (t : List Entity) (s : List ℕ) → showing t ≡ true → eqb (entity_width t s) 0 ≡ false → visible (entity_value t s) ≡ true
entity-visible [] s ok w = absurd (true≢false w)
entity-visible (e ∷ t) s ok w =
    let p = and_parts (visible e.1 && (all_visible (tail e) && leb (length (tail e)) 5)) (showing t) ok in
    let v = and_parts (visible e.1) (all_visible (tail e) && leb (length (tail e)) 5) p.0 in
    elim (stands_at 1 (tail e) s) as (λ b. eqb (cond b (suc (length (tail e))) (entity_width t s)) 0 ≡ false → visible (cond b e.1 (entity_value t s)) ≡ true)
    [ true ↦ λ _. v.0 | false ↦ λ w. entity-visible t s p.1 w ] w

-- a byte, or the entity that begins with it, stands for a visible byte
value-visible : (b : ℕ) (s : List ℕ) → visible b ≡ true → eqb (width five (b ∷ s)) 0 ≡ false → visible (value five (b ∷ s)) ≡ true
value-visible b s v w =
    elim (eqb b 38) as (λ t. eqb (cond t (entity_width five (b ∷ s)) 1) 0 ≡ false → visible (cond t (entity_value five (b ∷ s)) b) ≡ true)
    [ true ↦ λ w. entity-visible five (b ∷ s) refl w | false ↦ λ _. v ] w

-- what is decoded of visible bytes adds visible bytes to the name so far
decoded-on : (skip at : ℕ) (name s n : List ℕ) → all_visible name ≡ true → all_visible s ≡ true → decoded_from five skip at name s ≡ Ok n → all_visible n ≡ true
decoded-on skip at name [] n p q e = let same : name ≡ n = cc in ap all_visible (sym same) ∙ p
decoded-on (suc k) at name (b ∷ s) n p q e = decoded-on k (at + 1) name s n p (and_parts (visible b) (all_visible s) q).1 e
decoded-on zero at name (b ∷ s) n p q e =
    let v = and_parts (visible b) (all_visible s) q in
    let good = passed (eqb (width five (b ∷ s)) 0) (BadEntity at) _ n e in
    let room = passed (leb 32 (length name)) (TooLong at) _ n good.1 in
    let shown = value-visible b s v.0 good.0 in
    decoded-on (width five (b ∷ s) - 1) (at + 1) (name ++ value five (b ∷ s) ∷ []) s n
    (visible-append name (value five (b ∷ s) ∷ []) p (and_from _ _ shown refl)) v.1 room.1

-- what is admitted is admitted as it is
admits : (r : Result (List ℕ) NameFault) (n : List ℕ) → admitted r ≡ Ok n → r ≡ Ok n
admits (Ok m) n e =
    let some = passed (eqb (length m) 0) Empty _ n e in
    (passed (eqb (length m) 1 && eqb (get_or m 0 0) 45) LoneHyphen _ n some.1).1
admits (Err x) n e = never x n e

-- a name that can stand in a text: lawful, and of visible bytes
pub record Legible (n : List ℕ) : Type 0 where
  pub lawful : Lawful n
  pub shown : all_visible n ≡ true

-- a name that was read can stand in a text again
pub decoded-legible : (s n : List ℕ) → all_visible s ≡ true → decoded s ≡ Ok n → Legible n
decoded-legible s n v e = record {
  lawful = decoded-lawful five s n e;
  shown = decoded-on 0 1 [] s n refl v (admits (decoded_from five 0 1 [] s) n e);
}

-- visible bytes, one to six
record Inked (w : List ℕ) : Type 0 where
  shown : all_visible w ≡ true
  some : 1 ≤ length w
  few : length w ≤ 6

-- which is how a visible byte is written
written-inked : (t : List Entity) (b : ℕ) → showing t ≡ true → visible b ≡ true → Inked (written_by t b)
written-inked [] b ok v = record { shown = and_from _ _ v refl; some = omega arith; few = omega arith }
written-inked (e ∷ t) b ok v =
    let p = and_parts (visible e.1 && (all_visible (tail e) && leb (length (tail e)) 5)) (showing t) ok in
    let q = and_parts (visible e.1) (all_visible (tail e) && leb (length (tail e)) 5) p.0 in
    let r = and_parts (all_visible (tail e)) (leb (length (tail e)) 5) q.1 in
    let five = leb-true (length (tail e)) 5 r.1 in
    cond_both (eqb e.1 b) (38 ∷ tail e) (written_by t b) Inked
    (λ _. record { shown = r.0; some = omega arith; few = omega arith })
    (λ _. written-inked t b p.1 v)

-- so a name is written by visible bytes, at most six for each of its own
encoded-inked : (n : List ℕ) → all_visible n ≡ true → (all_visible (encoded n) ≡ true) × (length n ≤ length (encoded n)) × (length (encoded n) ≤ 6 * length n)
encoded-inked [] v = (refl, omega arith, omega arith)
encoded-inked (b ∷ n) v =
    let p = and_parts (visible b) (all_visible n) v in
    let w = written-inked five b refl p.0 in
    let more = encoded-inked n p.1 in
    let long = length-append (written b) (encoded n) in
    (visible-append (written b) (encoded n) w.shown more.0, omega (arith, long, w.some, more.1), omega (arith, long, w.few, more.2))

module _ (n : List ℕ) (h : Legible n) where
  -- what is written of a name is a field
  pub encoded-filled : filled (encoded n) ≡ true
  encoded-filled =
      let e = encoded-inked n h.shown in
      and_from _ _ (le-leb 1 (length (encoded n)) (omega (arith, e.1, h.lawful.0))) e.0

  -- of at most 192 bytes
  pub encoded-short : length (encoded n) ≤ 192
  encoded-short = omega (arith, (encoded-inked n h.shown).2, h.lawful.1)

  -- and no lone hyphen, which stands for no name
  pub encoded-no-hyphen : bytes_eq (encoded n) (codes "-") ≡ false
  encoded-no-hyphen = different (encoded n) (codes "-") (λ e. never LoneHyphen n (ap decoded (sym e) ∙ round_trip n h.lawful))
