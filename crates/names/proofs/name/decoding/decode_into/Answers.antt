use Rattle.std.proofs.Common.{◌≡◌, ◌+◌, ◌-◌, length, vec_items, arith, false-eqb}
use Rattle.std.proofs.lemmas.Option.{MatchOption-at_some}
use Rattle.entities.specs.Entities.{five, width}
use Rattle.names.proofs.Steps.{decoded-more}
use Rattle.names.proofs.name.decoding.decode_into.Goals as goal

pub loop-rest-preserved : goal.loop-rest-preserved
loop-rest-preserved c =
    let some = false-eqb _ 0 c.loop-rest-test.ensures in
    let u = MatchOption-at_some _ _ _ c.in_ok-decoded.ensures.ok_part c.unit.ensures in
    let long = c.loop-rest.name.ok.0 in
    let more = decoded-more five (length c.args.field.now - length c.loop-rest.rest.now + 1) (vec_items c.loop-rest.name) c.loop-rest.rest.now (omega arith) u.0 (omega arith) in
    let next : length c.args.field.now - length c.loop-rest.rest.now + 1 + width five c.loop-rest.rest.now ≡ length c.args.field.now - length c.in_ok-decoded.decoded.rest.now + 1 = omega arith in
    (omega arith, omega (arith, c.push_reserved.new.self.ok.0), omega arith, cc)
