-- The terms of better-ranked tasks.
--
--   gathered  the terms of those that share the processor take what the tasks take
--   few       there are no more terms than tasks
use Rattle.std.proofs.Common.{◌≡◌, ℕ, suc, ◌+◌, ◌*◌, ◌<◌, ◌≤◌, Bool, true, false, cond, List, [], ◌∷◌, map, length, take, sym, ap, ◌∙◌, zero-add, arith}
use Rattle.std.proofs.lemmas.List.{get_or-take, length-map, length-take-le, take-map}
use Rattle.std.proofs.lemmas.List.FromFn.{length-enumerate_from}
use Rattle.std.proofs.lemmas.List.Sums.{count_by-le-length, length-filter, sum_by-cons}
use Rattle.std.specs.List.{enumerate_from, filter, sum_by}
use Rattle.bounds.specs.declared.term.Term.{Term}
use Rattle.bounds.specs.Interference.{interference, taken}
use Rattle.bounds.specs.Sums.{ceil, sum_to}
use Rattle.bounds.specs.Takings.{sum_to-more}
use Rattle.bounds.proofs.Totals.{interference-sums}
use Rattle.tables.specs.declared.task.Task.{Task}
use Rattle.tables.specs.Rowed.{row_of, rows}
use Rattle.tables.specs.Rows.{Row}
use Rattle.analysis.specs.declared.part.PartKind.{PartKind}
use Rattle.analysis.specs.Needs.{taken_by, term_of}
use Rattle.analysis.specs.Parts.{no_task, row_at, takes}
use Rattle.analysis.specs.Seats.{Seats, together}

module _ (s : Seats) (all : List Row) (kind : PartKind) (k : ℕ) where
  -- whether a task, with its rank, shares the processor
  abbrev pub sharing : ℕ × Task → Bool
  sharing better = together s all kind better.0 k

  -- its term
  abbrev pub term_at : ℕ × Task → Term
  term_at better = term_of kind better.1

  module _ (t : ℕ) where
    abbrev taking : List (ℕ × Task) → ℕ
    taking better = sum_by (λ (x : Term). taken x t) (map term_at (filter sharing better))

    one-more : (b : Bool) (x : ℕ × Task) (better : List (ℕ × Task))
        → sum_by (λ (y : Term). taken y t) (map term_at (cond b (x ∷ filter sharing better) (filter sharing better)))
        ≡ cond b (taken (term_at x) t) 0 + taking better
    one-more true x better = sum_by-cons (λ (y : Term). taken y t) (term_at x) (map term_at (filter sharing better))
    one-more false x better = sym (zero-add (taking better))

    -- what tasks take from rank i on
    onward : (i : ℕ) (tasks : List Task) → ((j : ℕ) → j < length tasks → row_at all (i + j) ≡ row_at (rows tasks) j)
        → sum_to (taken_by s all kind k t) i + taking (enumerate_from i tasks) ≡ sum_to (taken_by s all kind k t) (i + length tasks)
    onward i [] same = let e : i ≡ i + 0 = omega arith in omega (arith, ap (sum_to (taken_by s all kind k t)) e)
    onward i (x ∷ tasks) same =
        let here : row_at all i ≡ row_of x = let e : i + 0 ≡ i = omega arith in ap (row_at all) (sym e) ∙ same 0 (omega arith) in
        let takes-here : taken_by s all kind k t i ≡ cond (sharing (i, x)) (taken (term_at (i, x)) t) 0 =
        ap (λ (r : Row). cond (sharing (i, x)) (ceil t r.period * takes kind r) 0) here
        in
        let rest = onward (i + 1) tasks (λ j h. let e : i + 1 + j ≡ i + suc j = omega arith in ap (row_at all) e ∙ same (suc j) (omega arith)) in
        let e : i + 1 + length tasks ≡ i + suc (length tasks) = omega arith in
        omega (
          arith,
          one-more (sharing (i, x)) (i, x) (enumerate_from (i + 1) tasks),
          takes-here,
          rest,
          sum_to-more (taken_by s all kind k t) i,
          ap (sum_to (taken_by s all kind k t)) e,
        )

  pub gathered : (tasks : List Task) (n : ℕ) → all ≡ rows tasks → n ≤ length tasks
      → (t : ℕ) → interference (map term_at (filter sharing (enumerate_from 0 (take n tasks)))) t ≡ sum_to (taken_by s all kind k t) n
  gathered tasks n same h t =
      let front : List Task = take n tasks in
      let long : length front ≡ n = length-take-le n tasks h in
      let same-rows : (j : ℕ) → j < length front → row_at all (0 + j) ≡ row_at (rows front) j =
      λ j l. rw zero-add
      (ap (λ (rs : List Row). row_at rs j) same ∙ sym (get_or-take n (rows tasks) j no_task (omega arith))
      ∙ ap (λ (rs : List Row). row_at rs j) (take-map row_of n tasks))
      in
      let e : 0 + length front ≡ n = omega arith in
      omega (
        arith,
        interference-sums (map term_at (filter sharing (enumerate_from 0 front))) t,
        onward t 0 front same-rows,
        ap (sum_to (taken_by s all kind k t)) e,
      )

  pub few : (tasks : List Task) (n : ℕ) → n ≤ length tasks → length (map term_at (filter sharing (enumerate_from 0 (take n tasks)))) ≤ n
  few tasks n h =
      omega (
        arith,
        length-map (filter sharing (enumerate_from 0 (take n tasks))) term_at,
        length-filter sharing (enumerate_from 0 (take n tasks)),
        count_by-le-length sharing (enumerate_from 0 (take n tasks)),
        length-enumerate_from 0 (take n tasks),
        length-take-le n tasks h,
      )
