-- What the judgement of one task says of its inequalities.
--
--   says         a part's bound meets its inequality, and is the least number that does; where there is no bound, no number does
--   by-bounds    what holds in each of the cases of the three bounds holds of the judgement
--   fits-judged  the bounds of a task that is judged in time fit it
--   verdict      they are the least ones; of a task that is judged late no three numbers are timely, and the part that is
--                named is the first whose inequality no number meets
use Rattle.std.proofs.Common.{◌≡◌, ℕ, ◌<◌, ◌≤◌, true, false, eqb, leb, List, Some, None, Ok, Err, Option, Result, sym, refl, ◌∙◌, subst, arith}
use Rattle.std.proofs.lemmas.Bool.{and_from, and_parts, cond_both, cond-false, cond-true, le-leb, leb-false, leb-true}
use Rattle.bounds.specs.Least.{Exactly, Meets, least}
use Rattle.bounds.proofs.Leasts.{least-is-exact}
use Rattle.disciplines.specs.Rules.{Relation}
use Rattle.tables.specs.Rows.{Row}
use Rattle.analysis.specs.declared.lateness.Lateness.{Lateness}
use Rattle.analysis.specs.declared.lateness.Lateness.TheVariants.{NoBound, Whole}
use Rattle.analysis.specs.declared.part.Bounds.{Bounds}
use Rattle.analysis.specs.declared.part.PartKind.{PartKind}
use Rattle.analysis.specs.declared.part.PartKind.TheVariants.{Before, Critical, After}
use Rattle.analysis.specs.Blocking.{blocking}
use Rattle.analysis.specs.Exact.{FirstMiss, LeastOnes, NoTimely}
use Rattle.analysis.specs.Judging.{bound, fits, fitting, judged, meets}
use Rattle.analysis.specs.Needs.{need}
use Rattle.analysis.specs.Parts.{bound_of, deadline, length_of, row_at, total}
use Rattle.analysis.specs.Seats.{Seats}

-- what holds of each of the three parts holds of every part
every : (P : PartKind → Type 0) → P Before → P Critical → P After → (kind : PartKind) → P kind
every P x y z Before = x
every P x y z Critical = y
every P x y z After = z

module _ (s : Seats) (rows : List Row) (b : ℕ) where
  -- what a bound, or none, says of the numbers that meet a part's inequality
  abbrev Says : PartKind → ℕ → Option ℕ → Type 0
  Says kind k None = (t : ℕ) → meets s rows b kind k t ≡ true → ⊥
  Says kind k (Some n) = (meets s rows b kind k n ≡ true) × ((t : ℕ) → meets s rows b kind k t ≡ true → n ≤ t)

  module _ (kind : PartKind) (k : ℕ) where
    -- only 0 meets the inequality of a part of length 0
    says-empty : eqb (length_of kind (row_at rows k)) 0 ≡ true → Says kind k (Some 0)
    says-empty e = (cond-true _ _ _ e, λ t m. omega arith)

    -- at any other length the test is the inequality itself
    meets-from-test : (t : ℕ) → eqb (length_of kind (row_at rows k)) 0 ≡ false → meets s rows b kind k t ≡ true
        → Meets (need s rows b kind k) (deadline (row_at rows k)) t
    meets-from-test t e m =
        let both = and_parts _ _ (sym (cond-false _ _ _ e) ∙ m) in
        let range = and_parts _ _ both.0 in
        record { from = leb-true _ _ range.0; within = leb-true _ _ range.1; met = leb-true _ _ both.1 }

    test-from-meets : (t : ℕ) → eqb (length_of kind (row_at rows k)) 0 ≡ false
        → Meets (need s rows b kind k) (deadline (row_at rows k)) t → meets s rows b kind k t ≡ true
    test-from-meets t e m =
        cond-false _ _ _ e ∙ and_from _ _ (and_from _ _ (le-leb _ _ m.from) (le-leb _ _ m.within)) (le-leb _ _ m.met)

    -- there the bound is the computed least number, or there is none
    says-least : (o : Option ℕ) → eqb (length_of kind (row_at rows k)) 0 ≡ false
        → Exactly (need s rows b kind k) (deadline (row_at rows k)) o → Says kind k o
    says-least None e x = λ t m. x.none-meets refl t (meets-from-test t e m)
    says-least (Some n) e x =
        let l = x.some-least n refl in (test-from-meets n e l.meets, λ t m. l.first t (meets-from-test t e m))

    says : Says kind k (bound s rows b kind k)
    says =
        cond_both (eqb (length_of kind (row_at rows k)) 0) (Some 0) (least (need s rows b kind k) (deadline (row_at rows k)))
        (Says kind k) says-empty (λ e. says-least _ e (least-is-exact (need s rows b kind k) (deadline (row_at rows k))))

  -- a judgement goes one of four ways: it names the first part that has no bound, or puts three bounds together
  module _ (k : ℕ) (P : Result Bounds Lateness → Type 0)
      (no-before : Says Before k None → P (Err (NoBound Before)))
      (no-critical : (n : ℕ) → Says Before k (Some n) → Says Critical k None → P (Err (NoBound Critical)))
      (no-after : (n c : ℕ) → Says Before k (Some n) → Says Critical k (Some c) → Says After k None → P (Err (NoBound After)))
      (All-three : (x : Bounds) → ((kind : PartKind) → Says kind k (Some (bound_of kind x))) → P (fitting s rows b k x))
    where
      by-options : (ob oc oa : Option ℕ) → Says Before k ob → Says Critical k oc → Says After k oa
          → P (elim ob [
            | None ↦ Err (NoBound Before)
            | Some n ↦ elim oc [
              | None ↦ Err (NoBound Critical)
              | Some c ↦ elim oa [
                | None ↦ Err (NoBound After)
                | Some a ↦ fitting s rows b k (record { before = n; critical = c; after = a })
              ]
            ]
          ])
      by-options None oc oa x y z = no-before x
      by-options (Some n) None oa x y z = no-critical n x y
      by-options (Some n) (Some c) None x y z = no-after n c x y z
      by-options (Some n) (Some c) (Some a) x y z =
          let found : Bounds = record { before = n; critical = c; after = a } in
          All-three found (every (λ kind. Says kind k (Some (bound_of kind found))) x y z)

      by-bounds : P (judged s rows b k)
      by-bounds = by-options _ _ _ (says Before k) (says Critical k) (says After k)

  -- three numbers fit if each meets its inequality and they add up to at most the deadline
  fits-three : (k : ℕ) (x : Bounds) → ((kind : PartKind) → meets s rows b kind k (bound_of kind x) ≡ true)
      → leb (total x) (deadline (row_at rows k)) ≡ true → fits s rows b k x ≡ true
  fits-three k x m e = and_from _ _ (and_from _ _ (m Before) (and_from _ _ (m Critical) (m After))) e

  -- each of three numbers that fit meets its inequality
  fits-met : (k : ℕ) (x : Bounds) → fits s rows b k x ≡ true → (kind : PartKind) → meets s rows b kind k (bound_of kind x) ≡ true
  fits-met k x f =
      let three = and_parts _ _ (and_parts _ _ f).0 in
      let rest = and_parts _ _ three.1 in
      every (λ kind. meets s rows b kind k (bound_of kind x) ≡ true) three.0 rest.0 rest.1

  -- and they add up to at most the deadline
  fits-total : (k : ℕ) (x : Bounds) → fits s rows b k x ≡ true → total x ≤ deadline (row_at rows k)
  fits-total k x f = leb-true _ _ (and_parts _ _ f).1

  -- the numbers that are found fit, if any are
  abbrev Fitting : ℕ → Result Bounds Lateness → Type 0
  Fitting k (Ok x) = fits s rows b k x ≡ true
  Fitting k (Err lateness) = Unit {0}

  fits-judged-at : (k : ℕ) → Fitting k (judged s rows b k)
  fits-judged-at k =
      by-bounds k (Fitting k) (λ x. tt) (λ n x y. tt) (λ n c x y z. tt)
      (λ x says. cond_both (leb (total x) (deadline (row_at rows k))) (Ok x) (Err Whole) (Fitting k)
      (λ e. fits-three k x (λ kind. (says kind).0) e) (λ e. tt))

pub fits-judged : (s : Seats) (rows : List Row) (b k : ℕ) (x : Bounds) → judged s rows b k ≡ Ok x → fits s rows b k x ≡ true
fits-judged s rows b k x e = subst (Fitting s rows b k) e (fits-judged-at s rows b k)

module _ (may : Relation) (s : Seats) (rows : List Row) where
  -- what a judgement says of the three numbers of a task
  abbrev pub Verdict : ℕ → Result Bounds Lateness → Type 0
  Verdict k (Ok x) = LeastOnes may s rows k x
  Verdict k (Err lateness) = NoTimely may s rows k × FirstMiss may s rows k lateness

  module _ (k : ℕ) where
    -- what a bound says under the task's own blocking term
    abbrev Says-here : PartKind → Option ℕ → Type 0
    Says-here kind o = Says s rows (blocking may s rows k) kind k o

    -- one part that no number meets leaves no three numbers
    none-without : (kind : PartKind) → Says-here kind None → NoTimely may s rows k
    none-without kind never x f = never (bound_of kind x) (fits-met s rows (blocking may s rows k) k x f kind)

    -- nor are there any where the least ones add up to too much
    none-past : (x : Bounds) → ((kind : PartKind) → Says-here kind (Some (bound_of kind x)))
        → deadline (row_at rows k) < total x → NoTimely may s rows k
    none-past x says past y f =
        let here = fits-met s rows (blocking may s rows k) k y f in
        omega (
          arith,
          fits-total s rows (blocking may s rows k) k y f,
          (says Before).1 y.before (here Before),
          (says Critical).1 y.critical (here Critical),
          (says After).1 y.after (here After),
        )

    -- so three bounds are the least ones, or there are none
    of_three : (x : Bounds) → ((kind : PartKind) → Says-here kind (Some (bound_of kind x)))
        → Verdict k (fitting s rows (blocking may s rows k) k x)
    of_three x says =
        cond_both (leb (total x) (deadline (row_at rows k))) (Ok x) (Err Whole) (Verdict k)
        (λ e. record {
          timely = fits-three s rows (blocking may s rows k) k x (λ kind. (says kind).0) e;
          least = λ kind. (says kind).1;
        })
        (λ e. (
          none-past x says (leb-false _ _ e),
          ((x.before, (says Before).0), (x.critical, (says Critical).0), (x.after, (says After).0)),
        ))

    pub verdict : Verdict k (judged s rows (blocking may s rows k) k)
    verdict =
        by-bounds s rows (blocking may s rows k) k (Verdict k)
        (λ x. (none-without Before x, x))
        (λ n x y. (none-without Critical y, ((n, x.0), y)))
        (λ n c x y z. (none-without After z, ((n, x.0), (c, y.0), z)))
        of_three
