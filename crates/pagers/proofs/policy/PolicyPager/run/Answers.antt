-- Each policy's own pager runs. Assumes nothing.
use Rattle.std.proofs.Common.{sym, ap, ◌∙◌}
use Rattle.paging.specs.Models.{instants_on, pulls_on}
use Rattle.pagers.specs.declared.policy.PolicyPager.{PolicyPager}
use Rattle.pagers.specs.Policies.{policy_model}
use Rattle.pagers.proofs.policy.PolicyPager.run.Goals as goal

pub returns-in-Lru : goal.returns-in-Lru
returns-in-Lru c = c.run.ensures.figures ∙ ap (λ (p : PolicyPager). (instants_on (policy_model p) c.args.string.now, pulls_on (policy_model p) c.args.string.now)) (sym c.in-Lru.is)

pub returns-in-Min : goal.returns-in-Min
returns-in-Min c = c.run-in-Min.ensures.figures ∙ ap (λ (p : PolicyPager). (instants_on (policy_model p) c.args.string.now, pulls_on (policy_model p) c.args.string.now)) (sym c.in-Min.is)

pub returns-in-Dpmin : goal.returns-in-Dpmin
returns-in-Dpmin c = c.run-in-Dpmin.ensures.figures ∙ ap (λ (p : PolicyPager). (instants_on (policy_model p) c.args.string.now, pulls_on (policy_model p) c.args.string.now)) (sym c.in-Dpmin.is)
