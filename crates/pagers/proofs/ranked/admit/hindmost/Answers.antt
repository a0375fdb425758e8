-- One code more. Assumes nothing.
use Rattle.std.proofs.Common.{◌≡◌, ℕ, ◌+◌, Bool, true, false, cond, not, ◌&&◌, ◌||◌, [], sym, ap, ◌∙◌, subst, arith}
use Rattle.std.proofs.lemmas.Bool.{cond-true, cond-false}
use Rattle.paging.specs.Pages.{Pages}
use Rattle.paging.specs.Rankings.{hindmost}
use Rattle.paging.specs.Sets.{pages}
use Rattle.paging.proofs.Hindmost.{hindmost_none, hindmost_more}
use Rattle.pagers.proofs.ranked.admit.hindmost.Goals as goal
use Rattle.pagers.proofs.ranked.admit.hindmost.Goals.{Joined-takes, then-takes, else-takes}
use Rattle.pagers.proofs.ranked.admit.hindmost.Given.{Over}

module _ (o : ℕ → ℕ → Bool) (n z : ℕ) (M : Pages) (at : z ≡ hindmost o n M) (b : Bool) (is : b ≡ (M n && (not (M z) || o z n))) where
  more : hindmost o (n + 1) M ≡ cond b n z
  more = hindmost_more o n M ∙ sym (ap (λ (v : Bool). cond v n z) is ∙ ap (λ (y : ℕ). cond (M n && (not (M y) || o y n)) n y) at)

  taken : b ≡ true → hindmost o (n + 1) M ≡ n
  taken e = more ∙ cond-true b n z e

  left : b ≡ false → hindmost o (n + 1) M ≡ z
  left e = more ∙ cond-false b n z e

pub loop-code-init : goal.loop-code-init
loop-code-init g c = sym (hindmost_none (g.R.Ranking.order c.args.ranking.now []) (pages c.args.held.now))

one_more : (g : Over) (c : Joined-takes g) → c.if-takes.last ≡ hindmost (g.R.Ranking.order c.args.ranking.now []) (c.loop-code.code + 1) (pages c.args.held.now)
one_more g c =
    let o = g.R.Ranking.order c.args.ranking.now [] in
    let M = pages c.args.held.now in
    elim c.if-takes.branch [
      | then-takes w ↦ omega (arith, w.last-is, taken o c.loop-code.code c.loop-code.last M c.loop-code.invariant c.takes.result c.takes.ensures w.if-takes.true)
      | else-takes w ↦ omega (arith, w.last-is, left o c.loop-code.code c.loop-code.last M c.loop-code.invariant c.takes.result c.takes.ensures w.if-takes.false)
    ]

pub loop-code-preserved : goal.loop-code-preserved
loop-code-preserved g c = one_more g (goal.at.loop-code-preserved g c).Joined-takes

pub returns-after-takes : goal.returns-after-takes
returns-after-takes g c =
    subst (λ (n : ℕ). c.if-takes.last ≡ hindmost (g.R.Ranking.order c.args.ranking.now []) n (pages c.args.held.now)) (omega arith)
    (one_more g (goal.at.returns-after-takes g c).Joined-takes)
