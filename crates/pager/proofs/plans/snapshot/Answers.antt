-- One code more. Assumes nothing.
use Rattle.std.proofs.Common.{◌≡◌, ℕ, ◌+◌, [], sym, ap, ◌∙◌, subst, arith}
use Rattle.paging.specs.Pages.{nothing, with_page}
use Rattle.paging.specs.Sets.{pages}
use Rattle.pager.specs.Prepaging.{filled}
use Rattle.pager.proofs.Foremost.{filled_none, filled_yes, filled_no}
use Rattle.pager.proofs.plans.snapshot.Given.{Over}
use Rattle.pager.proofs.plans.snapshot.Goals as goal
use Rattle.pager.proofs.plans.snapshot.Goals.{Joined-holds, then-holds, else-holds}

pub loop-code-init : goal.loop-code-init
loop-code-init g c = c.new-held.ensures ∙ filled_none nothing (g.P.Pager.holding c.args.pager.now [])

one_more : (g : Over) (c : Joined-holds g) → pages c.if-holds.held ≡ filled nothing (c.loop-code.code + 1) (g.P.Pager.holding c.args.pager.now [])
one_more g c =
    let M = g.P.Pager.holding c.args.pager.now [] in
    let n = c.loop-code.code in
    elim c.if-holds.branch [
      | then-holds w ↦ ap pages w.held-is ∙ w.insert.ensures ∙ ap (with_page n) c.loop-code.invariant ∙ filled_yes nothing M n (sym c.holds.ensures ∙ w.if-holds.true)
      | else-holds w ↦ ap pages w.held-is ∙ c.loop-code.invariant ∙ filled_no nothing M n (sym c.holds.ensures ∙ w.if-holds.false)
    ]

pub loop-code-preserved : goal.loop-code-preserved
loop-code-preserved g c = one_more g (goal.at.loop-code-preserved g c).Joined-holds

pub returns-after-holds : goal.returns-after-holds
returns-after-holds g c =
    subst (λ (n : ℕ). pages c.if-holds.held ≡ filled nothing n (g.P.Pager.holding c.args.pager.now [])) (omega arith)
    (one_more g (goal.at.returns-after-holds g c).Joined-holds)
