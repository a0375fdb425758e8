-- What a run counts at each place. Assumes nothing.
use Rattle.std.proofs.Common.{◌≡◌, suc, ◌+◌, not, [], get_or, sym, refl, ◌∙◌, arith}
use Rattle.paging.specs.Pages.{bit}
use Rattle.paging.specs.Schedules.{pulled}
use Rattle.paging.specs.Models.{held_on}
use Rattle.paging.proofs.Sums.{total_none}
use Rattle.paging.proofs.Sets.{bit_most}
use Rattle.pager.proofs.Places.{pulled_most, after_step, pulls_step, faults_step}
use Rattle.pager.proofs.runs.run.Goals as goal
use Rattle.pager.proofs.runs.run.Goals.{then-not-holds, else-not-holds}

pub loop-place-init : goal.loop-place-init
loop-place-init g c =
    let s = c.codes-codes.result.now in
    let b = g.P.Pager.holding c.args.pager.now in (
      refl,
      sym (total_none (λ t. bit (not (held_on b s t (get_or s t 0))))),
      sym (total_none (λ t. pulled (held_on b s t) (held_on b s (suc t)))),
      omega arith,
      omega arith,
      refl,
    )

pub overflow_add-pulls : goal.overflow_add-pulls
overflow_add-pulls g c =
    let m = g.P.Pager.holding c.loop-place.pager in
    let m' = g.P.Pager.holding c.serve-pulls.new.self in
    omega (arith, c.serve-pulls.ensures.answer, pulled_most (m []) (m' []))

pub loop-place-preserved : goal.loop-place-preserved
loop-place-preserved g c =
    let b = g.P.Pager.holding c.args.pager.now in
    let m = g.P.Pager.holding c.loop-place.pager in
    let m' = g.P.Pager.holding c.serve-pulls.new.self in
    let s = c.codes-codes.result.now in
    let t = c.loop-place.place in
    let inv = c.loop-place.invariant in
    let served = c.serve-pulls.ensures in
    let few = pulled_most (m []) (m' []) in
    let fault : c.if-not-holds.faults ≡ c.loop-place.faults + bit (not (m [] (get_or s t 0))) =
    elim c.if-not-holds.branch [
      | then-not-holds w ↦ rw (← c.holds.ensures, w.if-not-holds.true) w.faults-is
      | else-not-holds w ↦ rw (← c.holds.ensures, w.if-not-holds.false) (omega (arith, w.faults-is))
    ] in
    let one = bit_most (not (m [] (get_or s t 0))) in
    let e₁ = faults_step b m m' s t c.loop-place-test.true inv.0 served.moves in
    let e₂ = pulls_step b m m' s t c.loop-place-test.true inv.0 served.moves in (
      after_step b m m' s t c.loop-place-test.true inv.0 served.moves,
      omega arith,
      omega arith,
      omega arith,
      omega arith,
      served.frames ∙ inv.5,
    )
