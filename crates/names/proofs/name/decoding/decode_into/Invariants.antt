use Rattle.std.proofs.Common.{◌≡◌, ◌+◌, ◌-◌, ◌≤◌, [], length, vec_items, vec_capacity}
use Rattle.entities.specs.Entities.{five}
use Rattle.names.specs.Names.{decoded_from}
use Rattle.names.proofs.name.decoding.decode_into.Given as goal

-- what is left of the field completes the name so far to the whole field's
abbrev pub invariant-loop-rest : goal.invariant-loop-rest
invariant-loop-rest l = (32 ≤ vec_capacity l.name) × (length (vec_items l.name) ≤ 32) × (length l.rest ≤ length l.field) × (decoded_from five 0 (length l.field - length l.rest + 1) (vec_items l.name) l.rest ≡ decoded_from five 0 1 [] l.field)

abbrev pub decreases-loop-rest : goal.decreases-loop-rest
decreases-loop-rest l = length l.rest
