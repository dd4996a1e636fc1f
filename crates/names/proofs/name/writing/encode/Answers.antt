use Rattle.std.proofs.Common.{ap, ◌∙◌, arith}
use Rattle.std.proofs.lemmas.List.{take_all}
use Rattle.names.specs.Names.{encoded, decoded}
use Rattle.names.proofs.RoundTrip.{encoded-more, round_trip}
use Rattle.names.proofs.name.writing.encode.Goals as goal
use Rattle.names.proofs.name.writing.encode.Goals.{in-Some+in_ok-extend_from_slice-in-Some, in-None+in_ok-push-in-None}

pub loop-byte-preserved : goal.loop-byte-preserved
loop-byte-preserved c =
    let e = encoded-more c.args.name.now c.loop-byte.byte-index (omega arith) in
    elim c.match-entity.branch [
      | in-Some+in_ok-extend_from_slice-in-Some w ↦ cc (w.in-Some.ensures, w.in_ok-extend_from_slice-in-Some.ensures.items)
      | in-None+in_ok-push-in-None w ↦ cc (w.in-None.ensures, w.in_ok-push-in-None.ensures.items)
    ]

pub returns-clause-reads_back : goal.returns-clause-reads_back
returns-clause-reads_back c =
    let same = c.loop-byte.invariant ∙ ap encoded (take_all c.loop-byte.byte-index c.args.name.now c.loop-byte-test.false) in
    λ h. ap decoded same ∙ round_trip _ h
