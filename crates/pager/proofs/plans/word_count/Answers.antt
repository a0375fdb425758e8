use Rattle.std.proofs.Common.{◌≡◌, ℕ, [], length, ap, ◌∙◌, arith}
use Rattle.paging.specs.Models.{PagerModel, held_on, pulls_on}
use Rattle.paging.specs.Pages.{size}
use Rattle.paging.proofs.Balance.{pulls_balance}
use Rattle.pager.proofs.Replays.{plan_long}
use Rattle.pager.proofs.plans.word_count.Goals as goal

pub overflow_sub-result : goal.overflow_sub-result
overflow_sub-result g c =
    let b = g.P.Pager.holding c.args.pager.now in
    let s = c.args.string.now in
    let p : c.run-pulls.result.1 ≡ pulls_on b s = ap (λ (r : ℕ × ℕ). r.1) c.run-pulls.ensures.figures in
    let h : c.held_count-held.result ≡ size (held_on b s (length s)) = c.held_count-held.ensures ∙ ap (λ (m : PagerModel). size (m [])) c.run-pulls.ensures.moves in
    omega (arith, p, h, c.requires, pulls_balance (held_on b s) (length s))

pub returns : goal.returns
returns g c =
    let b = g.P.Pager.holding c.args.pager.now in
    let s = c.args.string.now in
    let p : c.run-pulls.result.1 ≡ pulls_on b s = ap (λ (r : ℕ × ℕ). r.1) c.run-pulls.ensures.figures in
    let h : c.held_count-held.result ≡ size (held_on b s (length s)) = c.held_count-held.ensures ∙ ap (λ (m : PagerModel). size (m [])) c.run-pulls.ensures.moves in
    omega (arith, p, h, c.requires, pulls_balance (held_on b s) (length s), plan_long (held_on b s) (length s))
