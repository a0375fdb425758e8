-- Each policy's own pager is planned. Assumes nothing.
use Rattle.std.proofs.Common.{◌≤◌, ◌++◌, length, drop, sym, ap, ◌∙◌, subst}
use Rattle.pager.specs.Plans.{plan_words}
use Rattle.paging.specs.Models.{held_on}
use Rattle.pagers.specs.declared.policy.PolicyPager.{PolicyPager}
use Rattle.pagers.specs.Policies.{policy_model}
use Rattle.pagers.proofs.policy.PolicyPager.plan.Goals as goal

pub plan-requires : goal.plan-requires
plan-requires c = subst (λ (p : PolicyPager). length (plan_words (held_on (policy_model p) c.args.string.now) (length c.args.string.now)) ≤ length c.args.out.now) c.in-Lru.is c.requires

pub returns-in-Lru-clause-count : goal.returns-in-Lru-clause-count
returns-in-Lru-clause-count c = c.plan.ensures.count ∙ ap (λ (p : PolicyPager). length (plan_words (held_on (policy_model p) c.args.string.now) (length c.args.string.now))) (sym c.in-Lru.is)

pub returns-in-Lru-clause-wrote : goal.returns-in-Lru-clause-wrote
returns-in-Lru-clause-wrote c = c.plan.ensures.wrote ∙ ap (λ (p : PolicyPager). plan_words (held_on (policy_model p) c.args.string.now) (length c.args.string.now) ++ drop c.plan.result c.args.out.now) (sym c.in-Lru.is)

pub plan-requires-in-Min : goal.plan-requires-in-Min
plan-requires-in-Min c = subst (λ (p : PolicyPager). length (plan_words (held_on (policy_model p) c.args.string.now) (length c.args.string.now)) ≤ length c.args.out.now) c.in-Min.is c.requires

pub returns-in-Min-clause-count : goal.returns-in-Min-clause-count
returns-in-Min-clause-count c = c.plan-in-Min.ensures.count ∙ ap (λ (p : PolicyPager). length (plan_words (held_on (policy_model p) c.args.string.now) (length c.args.string.now))) (sym c.in-Min.is)

pub returns-in-Min-clause-wrote : goal.returns-in-Min-clause-wrote
returns-in-Min-clause-wrote c = c.plan-in-Min.ensures.wrote ∙ ap (λ (p : PolicyPager). plan_words (held_on (policy_model p) c.args.string.now) (length c.args.string.now) ++ drop c.plan-in-Min.result c.args.out.now) (sym c.in-Min.is)
