-- Plans tell what they should. Assumes nothing.
use Rattle.pager.proofs.Replays.{plans_tell}
use Rattle.pager.proofs.plans.plans_stand.Goals as goal

pub returns : goal.returns
returns c = plans_tell
