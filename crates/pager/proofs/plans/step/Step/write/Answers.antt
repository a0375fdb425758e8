-- The releases, and then the pulls. Assumes nothing.
use Rattle.output.proofs.Outputs.{writes_more}
use Rattle.pager.proofs.plans.step.Step.write.Goals as goal

pub returns : goal.returns
returns c = writes_more c.write_kind.ensures c.write_kind-2.ensures
