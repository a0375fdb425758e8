-- One page more. Assumes nothing.
use Rattle.std.proofs.Common.{◌≡◌, ℕ, ◌+◌, ◌≤◌, subst, not, ◌&&◌, sym, ap, ◌∙◌, arith}
use Rattle.paging.specs.Pages.{bit}
use Rattle.paging.specs.Sets.{pages}
use Rattle.paging.proofs.Sums.{total_none}
use Rattle.pager.proofs.Places.{fresh, total_more}
use Rattle.pagers.proofs.dpmin.prepage.count_new.Goals as goal
use Rattle.pagers.proofs.dpmin.prepage.count_new.Goals.{Joined-lacks, then-lacks, else-lacks}

pub loop-code-init : goal.loop-code-init
loop-code-init c = (sym (total_none (λ k. bit (pages c.args.new.now k && not (pages c.args.held.now k)))), omega arith)

one_more : (c : Joined-lacks) → c.if-lacks.count ≡ fresh (pages c.args.held.now) (pages c.args.new.now) (c.loop-code.code + 1)
one_more c =
    let more = total_more c.loop-code.code (λ k. bit (pages c.args.new.now k && not (pages c.args.held.now k))) in
    elim c.if-lacks.branch [
      | then-lacks w ↦ omega (arith, w.count-is, c.loop-code.invariant.0, more, ap bit (sym c.lacks.ensures ∙ w.if-lacks.true))
      | else-lacks w ↦ omega (arith, w.count-is, c.loop-code.invariant.0, more, ap bit (sym c.lacks.ensures ∙ w.if-lacks.false))
    ]

pub loop-code-preserved : goal.loop-code-preserved
loop-code-preserved c = (one_more (goal.at.loop-code-preserved c).Joined-lacks, few)
  where
    few : c.if-lacks.count ≤ c.loop-code.code + 1
    few = elim c.if-lacks.branch [ then-lacks w ↦ omega (arith, w.count-is, c.loop-code.invariant.1) | else-lacks w ↦ omega (arith, w.count-is, c.loop-code.invariant.1) ]

pub returns-after-lacks : goal.returns-after-lacks
returns-after-lacks c =
    subst (λ (n : ℕ). c.if-lacks.count ≡ fresh (pages c.args.held.now) (pages c.args.new.now) n) (omega arith) (one_more (goal.at.returns-after-lacks c).Joined-lacks)
