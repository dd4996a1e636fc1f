use Rattle.std.proofs.Common.{◌≡◌, ◌-◌, ◌≤◌, length, is_ok, vec_items}
use Rattle.tables.specs.Listed.{listed}
use Rattle.attempts.specs.Placing.{attempt, attempts, find_seats, first_of, goes_to, seat_tasks, tried}
use Rattle.placement.proofs.placing.find_seats.Given as goal

-- no processor so far takes the task: those that are left decide
abbrev pub invariant-processors : goal.invariant-processors
invariant-processors g l =
    (vec_items l.homes ≡ vec_items l.initial.homes)
    × (first_of (λ p. is_ok (tried (g.D.Holding.may l.discipline) (listed l.table).tasks l.seated.sites.now (vec_items l.initial.homes) p))
    (l.processors - l.syncs - l.processor) l.processor
    ≡ goes_to (g.D.Holding.may l.discipline) (listed l.table).tasks l.seated.sites.now (l.processors - l.syncs) (vec_items l.initial.homes))

-- the tasks so far have seats: those that are left decide
abbrev pub invariant-tasks : goal.invariant-tasks
invariant-tasks g l =
    (l.syncs ≡ l.initial.syncs) × (length (vec_items l.homes) ≡ l.rank)
    × (seat_tasks (g.D.Holding.may l.discipline) (listed l.table).tasks l.seated.sites.now (l.processors - l.syncs)
    (length (listed l.table).tasks - l.rank) (vec_items l.homes)
    ≡ attempt (g.D.Holding.may l.discipline) l.processors (listed l.table) l.syncs)

-- no attempt so far seats every task: those that are left decide
abbrev pub invariant-attempts : goal.invariant-attempts
invariant-attempts g l =
    (l.syncs ≤ l.most)
    × (attempts (g.D.Holding.may l.discipline) l.processors (listed l.table) (l.most - l.syncs) l.syncs
    ≡ find_seats (g.D.Holding.may l.discipline) l.processors (listed l.table))

abbrev pub decreases-attempts : goal.decreases-attempts
decreases-attempts g l = l.most - l.syncs
