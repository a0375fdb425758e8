-- Each policy's own pager. Assumes nothing.
use Rattle.std.proofs.Common.{sym, ap, ◌∙◌}
use Rattle.paging.specs.declared.policy.Policy.{Policy}
use Rattle.paging.specs.Frames.{frames_of}
use Rattle.paging.specs.Rankings.{RankingModel, own}
use Rattle.paging.specs.Policies.{model}
use Rattle.pagers.proofs.policy.PolicyPager.new.Goals as goal

pub returns-in-Lru-clause-holding : goal.returns-in-Lru-clause-holding
returns-in-Lru-clause-holding c =
    let f = frames_of c.args.frames in
    c.new-in-Lru.ensures.holding ∙ ap (λ (r : RankingModel). own r f) c.new.ensures ∙ ap (λ (p : Policy). model p f) (sym c.in-Lru.is)

pub returns-in-Min-clause-holding : goal.returns-in-Min-clause-holding
returns-in-Min-clause-holding c =
    let f = frames_of c.args.frames in
    c.new-in-Min-2.ensures.holding ∙ ap (λ (r : RankingModel). own r f) c.new-in-Min.ensures ∙ ap (λ (p : Policy). model p f) (sym c.in-Min.is)

pub returns-in-Dpmin-clause-holding : goal.returns-in-Dpmin-clause-holding
returns-in-Dpmin-clause-holding c = c.new-in-Dpmin.ensures.holding ∙ ap (λ (p : Policy). model p (frames_of c.args.frames)) (sym c.in-Dpmin.is)

pub returns-in-Fifo-clause-holding : goal.returns-in-Fifo-clause-holding
returns-in-Fifo-clause-holding c = c.new-in-Fifo.ensures.holding ∙ ap (λ (p : Policy). model p (frames_of c.args.frames)) (sym c.in-Fifo.is)
