-- Each policy's own pager serves. Assumes nothing.
use Rattle.std.proofs.Common.{sym, ap, ◌∙◌}
use Rattle.paging.specs.Models.{served}
use Rattle.pagers.specs.declared.policy.PolicyPager.{PolicyPager}
use Rattle.pagers.specs.Policies.{policy_model}
use Rattle.pagers.proofs.policy.serve.PolicyPagerPager.serve.Goals as goal

pub returns-in-Lru-clause-moves : goal.returns-in-Lru-clause-moves
returns-in-Lru-clause-moves c = c.serve.ensures.moves ∙ ap (λ (p : PolicyPager). served (policy_model p) c.args.row.now) (sym c.in-Lru.is)

pub returns-in-Min-clause-moves : goal.returns-in-Min-clause-moves
returns-in-Min-clause-moves c = c.serve-in-Min.ensures.moves ∙ ap (λ (p : PolicyPager). served (policy_model p) c.args.row.now) (sym c.in-Min.is)

pub returns-in-Dpmin-clause-moves : goal.returns-in-Dpmin-clause-moves
returns-in-Dpmin-clause-moves c = c.serve-in-Dpmin.ensures.moves ∙ ap (λ (p : PolicyPager). served (policy_model p) c.args.row.now) (sym c.in-Dpmin.is)

pub returns-in-Fifo-clause-moves : goal.returns-in-Fifo-clause-moves
returns-in-Fifo-clause-moves c = c.serve-in-Fifo.ensures.moves ∙ ap (λ (p : PolicyPager). served (policy_model p) c.args.row.now) (sym c.in-Fifo.is)
