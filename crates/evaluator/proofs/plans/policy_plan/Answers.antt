use Rattle.std.proofs.Common.{[], ap, ◌∙◌}
use Rattle.paging.specs.Frames.{frames_of}
use Rattle.paging.specs.Models.{PagerModel}
use Rattle.paging.specs.Pages.{size}
use Rattle.evaluator.proofs.ByLetter.{model_empty}
use Rattle.evaluator.proofs.plans.policy_plan.Goals as goal

pub word_count-requires : goal.word_count-requires
word_count-requires c = ap (λ (b : PagerModel). size (b [])) c.new.ensures.holding ∙ model_empty c.args.policy (frames_of c.args.frames)
