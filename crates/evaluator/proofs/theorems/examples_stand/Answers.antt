use Rattle.evaluator.proofs.Worked.{worked_examples}
use Rattle.evaluator.proofs.theorems.examples_stand.Goals as goal

pub returns : goal.returns
returns c = worked_examples
