use Rattle.worked_examples.proofs.Right.{examples-hold}
use Rattle.worked_examples.proofs.examples_hold.Goals as goal

pub returns : goal.returns
returns c = examples-hold
