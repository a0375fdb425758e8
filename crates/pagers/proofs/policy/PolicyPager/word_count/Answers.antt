-- The words of the plan of each policy's own pager. Assumes nothing.
use Rattle.std.proofs.Common.{length, sym, ap, ◌∙◌}
use Rattle.pager.specs.Plans.{plan_words}
use Rattle.paging.specs.Models.{held_on}
use Rattle.pagers.specs.declared.policy.PolicyPager.{PolicyPager}
use Rattle.pagers.specs.Policies.{policy_model}
use Rattle.pagers.proofs.policy.PolicyPager.word_count.Goals as goal

pub returns-in-Lru : goal.returns-in-Lru
returns-in-Lru c = c.word_count.ensures ∙ ap (λ (p : PolicyPager). length (plan_words (held_on (policy_model p) c.args.string.now) (length c.args.string.now))) (sym c.in-Lru.is)

pub returns-in-Min : goal.returns-in-Min
returns-in-Min c = c.word_count-in-Min.ensures ∙ ap (λ (p : PolicyPager). length (plan_words (held_on (policy_model p) c.args.string.now) (length c.args.string.now))) (sym c.in-Min.is)
