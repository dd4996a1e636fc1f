use Rattle.std.proofs.Common.{◌≡◌, ℕ, ◌+◌, ◌-◌, ◌<◌, ◌≤◌, Bool, true, false, cond, List, [], ◌∷◌, ◌++◌, length, is_ok, Some, Ok, Err, vec_items, sym, ap, ◌∙◌, arith}
use Rattle.std.proofs.lemmas.List.{length-map, length_push}
use Rattle.disciplines.specs.Rules.{Relation}
use Rattle.tables.specs.Listed.{listed}
use Rattle.tables.specs.Rowed.{row_of}
use Rattle.tables.specs.Rows.{Row, Listing}
use Rattle.spreading.specs.Spreading.{spread_of}
use Rattle.analysis.specs.declared.lateness.WeighFault.TheVariants.{Late}
use Rattle.attempts.specs.Placing.{attempt, attempts, goes_to, seat_tasks, tried}
use Rattle.placement.specs.Seatings.{late_with}
use Rattle.placement.proofs.Searches.{asked, attempts-done, attempts-last, attempts-on, first_of-no, first_of-yes, none-takes, seat-found, tasks-end, tasks-on}
use Rattle.placement.proofs.placing.find_seats.Goals as goal

pub processors-preserved : goal.processors-preserved
processors-preserved g c =
    let may : Relation = g.D.Holding.may c.args.discipline.now in
    let rows : List Row = (listed c.args.table.now).tasks in
    let sites : List ℕ = c.deref.result.now in
    let homes : List ℕ = vec_items c.tasks.homes in
    let no : is_ok (tried may rows sites homes c.processors.processor) ≡ false =
    asked may rows sites homes (vec_items c.processors.homes) c.processors.processor c.tasks.rank
    c.in_ok-critical.critical c.in_ok-sit.field-0 c.processors.invariant.0 c.tasks.invariant.1
    c.in_ok-critical.ensures c.in_ok-sit.ensures.fits ∙ c.if-branch.false
    in (
      c.in_ok-sit.ensures.seated
          ∙ ap (λ (b : Bool). cond b (vec_items c.processors.homes ++ c.processors.processor ∷ []) (vec_items c.processors.homes)) c.if-branch.false ∙ c.processors.invariant.0,
      sym (first_of-no (λ p. is_ok (tried may rows sites homes p)) (c.args.processors - c.tasks.syncs) c.processors.processor c.processors-test.true no) ∙ c.processors.invariant.1,
    )

pub tasks-preserved : goal.tasks-preserved
tasks-preserved g c =
    let may : Relation = g.D.Holding.may c.args.discipline.now in
    let rows : List Row = (listed c.args.table.now).tasks in
    let sites : List ℕ = c.deref.result.now in
    let homes : List ℕ = vec_items c.tasks.homes in
    let p : ℕ = c.processors.processor in
    let apps : ℕ = c.args.processors - c.tasks.syncs in
    let taken : is_ok (tried may rows sites homes p) ≡ true =
    asked may rows sites homes (vec_items c.processors.homes) p c.tasks.rank
    c.in_ok-critical.critical c.in_ok-sit.field-0 c.processors.invariant.0 c.tasks.invariant.1
    c.in_ok-critical.ensures c.in_ok-sit.ensures.fits ∙ c.if-branch.true
    in
    let found : goes_to may rows sites apps homes ≡ Some p =
    sym c.processors.invariant.1 ∙ first_of-yes (λ x. is_ok (tried may rows sites homes x)) apps p c.processors-test.true taken
    in
    let more : vec_items c.sit.new.homes ≡ homes ++ p ∷ [] =
    c.in_ok-sit.ensures.seated ∙ ap (λ (b : Bool). cond b (vec_items c.processors.homes ++ p ∷ []) (vec_items c.processors.homes)) c.if-branch.true
    ∙ ap (λ (x : List ℕ). x ++ p ∷ []) c.processors.invariant.0
    in
    let within : c.tasks.rank < length rows =
    omega (arith, c.tasks-test.true, ap length c.tasks-rank-end.ensures.value, length-map (vec_items c.args.table.now.tasks) row_of)
    in (
      c.tasks.invariant.0,
      ap length more ∙ length_push homes p ∙ ap (λ (n : ℕ). n + 1) c.tasks.invariant.1,
      ap (seat_tasks may rows sites apps (length rows - (c.tasks.rank + 1))) more
          ∙ sym (tasks-on may rows sites apps (length rows) c.tasks.rank homes (homes ++ p ∷ []) within (seat-found may rows sites apps p homes taken found)) ∙ c.tasks.invariant.2,
    )

pub attempts-preserved : goal.attempts-preserved
attempts-preserved g c =
    let may : Relation = g.D.Holding.may c.args.discipline.now in
    let t : Listing = listed c.args.table.now in
    let within : c.tasks.rank < length t.tasks =
    omega (arith, c.tasks-test.true, ap length c.tasks-rank-end.ensures.value, length-map (vec_items c.args.table.now.tasks) row_of)
    in
    let fails : attempt may c.args.processors t c.tasks.syncs ≡ Err (Late c.tasks.rank (late_with c.in_ok-critical.critical)) =
    sym c.tasks.invariant.2 ∙ none-takes may t.tasks c.deref.result.now (c.args.processors - c.tasks.syncs) c.tasks.rank c.processors.processor
    (vec_items c.tasks.homes) c.in_ok-critical.critical c.tasks.invariant.1 within c.processors-test.false
    c.in_ok-critical.ensures c.processors.invariant.1
    in
    let fewer : c.tasks.syncs < c.most_syncs-most.result = omega (arith, c.tasks.invariant.0, c.attempts.invariant.0, c.if-syncs-most.false) in (
      omega arith,
      sym (attempts-on may c.args.processors t c.most_syncs-most.result c.tasks.syncs _ fewer fails)
          ∙ ap (λ (q : ℕ). attempts may c.args.processors t (c.most_syncs-most.result - q) q) c.tasks.invariant.0 ∙ c.attempts.invariant.1,
    )

pub returns-then-syncs-most : goal.returns-then-syncs-most
returns-then-syncs-most g c =
    let may : Relation = g.D.Holding.may c.args.discipline.now in
    let t : Listing = listed c.args.table.now in
    let within : c.tasks.rank < length t.tasks =
    omega (arith, c.tasks-test.true, ap length c.tasks-rank-end.ensures.value, length-map (vec_items c.args.table.now.tasks) row_of)
    in
    let fails : attempt may c.args.processors t c.tasks.syncs ≡ Err (Late c.tasks.rank (late_with c.in_ok-critical.critical)) =
    sym c.tasks.invariant.2 ∙ none-takes may t.tasks c.deref.result.now (c.args.processors - c.tasks.syncs) c.tasks.rank c.processors.processor
    (vec_items c.tasks.homes) c.in_ok-critical.critical c.tasks.invariant.1 within c.processors-test.false
    c.in_ok-critical.ensures c.processors.invariant.1
    in
    let last : c.most_syncs-most.result ≡ c.tasks.syncs = omega (arith, c.if-syncs-most.true) in
    sym c.attempts.invariant.1 ∙ ap (λ (q : ℕ). attempts may c.args.processors t (c.most_syncs-most.result - q) q) (sym c.tasks.invariant.0)
    ∙ attempts-last may c.args.processors t c.most_syncs-most.result c.tasks.syncs _ last fails
    ∙ ap (λ l. Err (Late c.tasks.rank l)) (sym c.lateness_with.ensures)

pub returns-after-tasks : goal.returns-after-tasks
returns-after-tasks g c =
    let may : Relation = g.D.Holding.may c.args.discipline.now in
    let t : Listing = listed c.args.table.now in
    let past : length t.tasks ≤ c.tasks.rank =
    omega (arith, c.tasks-test.false, ap length c.tasks-rank-end.ensures.value, length-map (vec_items c.args.table.now.tasks) row_of)
    in
    let done : attempt may c.args.processors t c.tasks.syncs ≡ Ok (vec_items c.tasks.homes) =
    sym c.tasks.invariant.2
    ∙ tasks-end may t.tasks c.deref.result.now (c.args.processors - c.tasks.syncs) (length t.tasks) c.tasks.rank (vec_items c.tasks.homes) past
    in
    let spread : spread_of t c.args.processors c.tasks.syncs ≡ vec_items c.in_ok-sites.sites =
    sym (c.in_ok-sites.ensures.value ∙ ap (spread_of t c.args.processors) (sym c.tasks.invariant.0))
    in
    sym c.attempts.invariant.1 ∙ ap (λ (q : ℕ). attempts may c.args.processors t (c.most_syncs-most.result - q) q) (sym c.tasks.invariant.0)
    ∙ attempts-done may c.args.processors t (c.most_syncs-most.result - c.tasks.syncs) c.tasks.syncs (vec_items c.tasks.homes) done
    ∙ ap (λ (x : List ℕ). Ok (record { syncs = c.tasks.syncs; seats = record { resources = x; tasks = vec_items c.tasks.homes } })) spread
