use Rattle.paging.proofs.Least.{policies_least, dpmin_more_frames}
use Rattle.paging.proofs.theorems.policies_stand.Goals as goal

pub returns : goal.returns
returns c = record { least = policies_least; frames = dpmin_more_frames }
