use Rattle.std.proofs.Common.{◌≡◌, ℕ, ◌+◌, ◌<◌, ◌≢◌, length, Ok, ap, ◌∙◌, arith, length-set, get_or-set_other, get_or-set_same, below_more}
use Rattle.std.proofs.lemmas.List.FromFn.{fill_by_all}
use Rattle.paging.specs.declared.policy.Policy.TheVariants.{Dpmin}
use Rattle.paging.specs.Models.{PagerModel, instants_on}
use Rattle.paging.specs.Pages.{nothing}
use Rattle.paging.specs.Policies.{dpmin}
use Rattle.evaluator.specs.Answers.{instants_at}
use Rattle.evaluator.proofs.edges.dpmin_row.Goals as goal

pub loop-k-preserved : goal.loop-k-preserved
loop-k-preserved c =
    let s = c.args.string.now in
    let k = c.loop-k.k in
    let told : c.run.result.0 ≡ instants_at Dpmin s (k + 1) =
    ap (λ (p : ℕ × ℕ). p.0) c.run.ensures.figures
    ∙ ap (λ (b : PagerModel). instants_on b s) (c.new-pager.ensures.holding ∙ ap (λ (f : ℕ). dpmin f nothing) c.in_ok-new.ensures.1) in (
      length-set c.loop-k.faults-items k c.run.result.0 ∙ c.loop-k.invariant.0,
      below_more _ _
          (λ j h. let ne : j ≢ k = omega arith in rw get_or-set_other (c.loop-k.invariant.1 j h))
          (let lt : k < length c.loop-k.faults-items = omega (arith, c.loop-k.invariant.0, c.loop-k-test.true) in rw get_or-set_same told),
    )

pub returns : goal.returns
returns c =
    ap Ok (fill_by_all (λ k. instants_at Dpmin c.args.string.now (k + 1)) c.loop-k.faults-items 64 0 c.loop-k.invariant.0
    (λ j h. c.loop-k.invariant.1 j (omega (arith, c.loop-k-test.false))))
