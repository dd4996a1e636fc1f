-- Weighing is exact.
--
--   first-late         the first task that is judged late is the first of which no three numbers are timely
--   right              what weighing answers is right: least numbers, a task that is late, or a seating that is not lawful
--   weighing-is-exact  so late is said exactly where no three numbers are timely, and a plan has the least ones
use Rattle.std.proofs.Common.{◌≡◌, ℕ, ◌<◌, true, not, List, length, get_or, Ok, Err, Result, refl, subst}
use Rattle.std.proofs.lemmas.Bool.{and_parts, both_ways, cond_both, not-true}
use Rattle.disciplines.specs.Rules.{Relation}
use Rattle.tables.specs.Rows.{Row, Listing}
use Rattle.analysis.specs.declared.lateness.Lateness.{Lateness}
use Rattle.analysis.specs.declared.lateness.WeighFault.{WeighFault}
use Rattle.analysis.specs.declared.lateness.WeighFault.TheVariants.{Box, Seat, Late, Memory}
use Rattle.analysis.specs.declared.part.Bounds.{Bounds}
use Rattle.analysis.specs.Blocking.{blocking}
use Rattle.analysis.specs.Exact.{FirstLate, LeastOnes, NoTimely, Weighing-is-exact}
use Rattle.analysis.specs.Seats.{Seats, is_box, lawful}
use Rattle.analysis.specs.Weighing.{Planned, bounds_to, no_bounds, plan_with, weigh_of}
use Rattle.exactness.proofs.Tasks.{FirstJudged, Outcome, outcome}
use Rattle.exactness.proofs.Verdicts.{Verdict, fits-judged, verdict}

module _ (may : Relation) (s : Seats) (rows : List Row) where
  -- late is judged of a task only if no three numbers are timely, and those judged in time before it have three
  first-late : (k : ℕ) (lateness : Lateness) → FirstJudged may s rows (length rows) k lateness → FirstLate may s rows k lateness
  first-late k lateness f =
      let said : Verdict may s rows k (Err lateness) = subst (Verdict may s rows k) f.here (verdict may s rows k) in
      record {
        task = f.task;
        none = said.0;
        miss = said.1;
        earlier = λ j h. let x = f.earlier j h in (x.0, fits-judged s rows (blocking may s rows j) j x.0 x.1);
      }

module _ (may : Relation) (m q : ℕ) (t : Listing) (s : Seats) where
  -- memory is no matter of the definition, so it is never the answer
  abbrev Right : Result Planned WeighFault → Type 0
  Right (Ok plan) = (k : ℕ) → k < length t.tasks → LeastOnes may s t.tasks k (get_or plan.bounds k no_bounds)
  Right (Err (Late k lateness)) = FirstLate may s t.tasks k lateness
  Right (Err Box) = lawful m q t s ≡ true → ⊥
  Right (Err Seat) = lawful m q t s ≡ true → ⊥
  Right (Err Memory) = ⊥

  right-plan : (r : Result (List Bounds) WeighFault) → Outcome may s t.tasks (length t.tasks) r
      → Right (plan_with may m q t s r)
  right-plan (Ok bounds) o = λ k h. subst (Verdict may s t.tasks k) (o.1 k h) (verdict may s t.tasks k)
  right-plan (Err (Late k lateness)) o = first-late may s t.tasks k lateness o
  right-plan (Err Box) o = absurd o
  right-plan (Err Seat) o = absurd o
  right-plan (Err Memory) o = o

  right : Right (weigh_of may m q t s)
  right =
      cond_both (not (is_box m)) _ _ Right
      (λ no sound. both_ways (is_box m) (not-true _ no) (and_parts _ _ (and_parts _ _ sound).0).0)
      (λ _. cond_both (not (lawful m q t s)) _ _ Right
      (λ no sound. both_ways (lawful m q t s) (not-true _ no) sound)
      (λ _. right-plan (bounds_to may s t.tasks (length t.tasks)) (outcome may s t.tasks (length t.tasks))))

  -- an answer that is right is late wherever a task of a lawful seating has no three timely numbers
  told : (answer : Result Planned WeighFault) → Right answer → lawful m q t s ≡ true → (k : ℕ) → k < length t.tasks
      → NoTimely may s t.tasks k → (j : ℕ) × (lateness : Lateness) × (answer ≡ Err (Late j lateness))
  told (Ok plan) r sound k h none = absurd (none (get_or plan.bounds k no_bounds) (r k h).timely)
  told (Err (Late j lateness)) r sound k h none = (j, lateness, refl)
  told (Err Box) r sound k h none = absurd (r sound)
  told (Err Seat) r sound k h none = absurd (r sound)
  told (Err Memory) r sound k h none = absurd r

pub weighing-is-exact : Weighing-is-exact
weighing-is-exact may m q t s =
    record {
      late = λ k lateness e. subst (Right may m q t s) e (right may m q t s);
      told = told may m q t s (weigh_of may m q t s) (right may m q t s);
      least = λ plan e. subst (Right may m q t s) e (right may m q t s);
    }
