use Rattle.std.proofs.Common.{◌≡◌, Some, None, sym, arith}
use Rattle.bounds.specs.Least.{Meets, least}
use Rattle.bounds.proofs.Leasts.{found, jump, least-is-exact, missing, uncut}
use Rattle.bounds.proofs.search.climb.Goals as goal

pub returns-then-needed-t : goal.returns-then-needed-t
returns-then-needed-t g c =
    let f = g.N.Need.need c.args.part.now in
    let t = c.loop-t.t in
    let meets : Meets f c.args.limit t = record { from = c.loop-t.invariant.0; within = omega arith; met = omega (arith, uncut f t _ (omega arith) c.at-needed.ensures) } in
    let value : Some t ≡ least f c.args.limit = sym (found f c.args.limit t meets c.loop-t.invariant.1) in
    record { value = value; exact = rw value (least-is-exact f c.args.limit) }

pub loop-t-preserved : goal.loop-t-preserved
loop-t-preserved g c =
    let f = g.N.Need.need c.args.part.now in
    let rises = g.met.N.Need.rises c.args.part.now in
    let t = c.loop-t.t in
    (omega arith, jump f rises t _ (uncut f t _ (omega arith) c.at-needed.ensures) c.loop-t.invariant.1)

pub returns : goal.returns
returns g c =
    let f = g.N.Need.need c.args.part.now in
    let value : None ≡ least f c.args.limit = sym (missing f c.args.limit c.loop-t.t (omega arith) c.loop-t.invariant.1) in
    record { value = value; exact = rw value (least-is-exact f c.args.limit) }
