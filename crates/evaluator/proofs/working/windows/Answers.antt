use Rattle.std.proofs.Common.{◌≡◌, ℕ, suc, ◌+◌, ◌≤◌, not, List, get_or, sym, ap, ◌∙◌, subst, arith}
use Rattle.paging.specs.Pages.{Pages, bit, size}
use Rattle.paging.specs.Schedules.{faults}
use Rattle.paging.specs.Sets.{pages}
use Rattle.paging.proofs.Sums.{total_none}
use Rattle.paging.proofs.Sets.{size_most}
use Rattle.evaluator.specs.WorkingSets.{Windowed, working_set}
use Rattle.evaluator.proofs.Windows.{missing_more, sizes_more}
use Rattle.evaluator.proofs.working.windows.Goals as goal
use Rattle.evaluator.proofs.working.windows.Goals.{then-not-contains, else-not-contains}

pub overflow_add-sum : goal.overflow_add-sum
overflow_add-sum c = omega (arith, c.loop-code.invariant.6, c.len-sum.ensures, size_most (pages c.slide.new.self.set), c.loop-code-test.true, c.codes-codes.ensures.few)

pub loop-code-init : goal.loop-code-init
loop-code-init c = (
  c.over-window.ensures.codes ∙ sym c.codes-codes.ensures.codes,
  c.over-window.ensures.width,
  c.over-window.ensures.place,
  sym (total_none (λ t. bit (not (working_set c.args.width c.codes-codes.result.now t (get_or c.codes-codes.result.now t 0))))),
  omega arith,
  sym (total_none (λ t. size (working_set c.args.width c.codes-codes.result.now (suc t)))),
  omega arith,
)

-- a window over the same references, of the same width and at the same place
same : (w v t p : ℕ) (s r : List ℕ) (M : Pages) → r ≡ s → v ≡ w → p ≡ t → Windowed v r p M → Windowed w s t M
same w v t p s r M a b e = subst (λ (k : ℕ). Windowed v r p M → Windowed w s k M) e (subst (λ (k : ℕ). Windowed v r p M → Windowed k s p M) b (subst (λ (z : List ℕ). Windowed v r p M → Windowed v z p M) a (λ h. h)))

pub loop-code-preserved : goal.loop-code-preserved
loop-code-preserved c =
    let s = c.codes-codes.result.now in
    let w = c.args.width in
    let t = c.loop-code.code-index in
    let M = pages c.loop-code.window.set in
    let N = pages c.slide.new.self.set in
    let inv = c.loop-code.invariant in
    let codes = c.slide.ensures.codes ∙ inv.0 in
    let width = c.slide.ensures.width ∙ inv.1 in
    let place : c.slide.new.self.place ≡ t + 1 = omega (arith, c.slide.ensures.place, inv.2) in
    let more = missing_more w s t M (same w _ t _ s _ M inv.0 inv.1 inv.2 c.loop-code.window.windowed) in
    let all = sizes_more w s t N (same w _ (t + 1) _ s _ N codes width place c.slide.new.self.windowed) in
    let b : bit (not (M (get_or s t 0))) ≡ bit (not c.contains.result) = ap (λ b. bit (not b)) (sym c.contains.ensures) in
    let e : (c.if-not-contains.faults ≡ faults s (working_set w s) (t + 1)) × (c.if-not-contains.faults ≤ t + 1) =
    elim c.if-not-contains.branch [
      | then-not-contains v ↦ (let f = ap (λ b. bit (not b)) v.if-not-contains.true in (omega (arith, v.faults-is, inv.3, more, b, f), omega (arith, v.faults-is, inv.4)))
      | else-not-contains v ↦ (let f = ap (λ b. bit (not b)) v.if-not-contains.false in (omega (arith, v.faults-is, inv.3, more, b, f), omega (arith, v.faults-is, inv.4)))
    ] in (
      codes,
      width,
      place,
      e.0,
      e.1,
      omega (arith, inv.5, c.len-sum.ensures, all),
      omega (arith, inv.6, c.len-sum.ensures, size_most N),
    )
