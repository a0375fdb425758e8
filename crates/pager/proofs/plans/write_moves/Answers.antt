-- The moves of one place more. Assumes nothing.
use Rattle.std.proofs.Common.{◌≡◌, ℕ, List, [], ◌+◌, length, sym, refl, ap, ◌∙◌, subst, arith}
use Rattle.output.specs.declared.Output.{Output}
use Rattle.output.specs.Outputs.{HasRoom, Writes}
use Rattle.output.proofs.Outputs.{writes_none}
use Rattle.paging.specs.Models.{held_on}
use Rattle.paging.specs.Pages.{size}
use Rattle.paging.specs.Schedules.{pulled}
use Rattle.paging.specs.Sets.{pages}
use Rattle.pager.specs.Plans.{plan_words}
use Rattle.pager.proofs.Places.{after_step}
use Rattle.pager.proofs.Words.{plan_none}
use Rattle.pager.proofs.Planned.{plan_room, plan_wrote, plan_still, nothing_moved, clip_same, clip_size}
use Rattle.pager.proofs.plans.write_moves.Goals as goal
use Rattle.pager.proofs.plans.write_moves.Goals.{then-pulls-gt0, else-pulls-gt0+else-held_count-len}

pub loop-place-init : goal.loop-place-init
loop-place-init g c =
    let e = plan_none (held_on (g.P.Pager.holding c.args.pager.now) c.codes-codes.result.now) in (
      refl,
      c.snapshot-before.ensures,
      subst (λ (ws : List ℕ). Writes c.args.plan.now ws c.args.plan.now) (sym e) (writes_none c.args.plan.now),
      refl,
    )

pub write-requires : goal.write-requires
write-requires g c =
    let b = g.P.Pager.holding c.args.pager.now in
    let m = g.P.Pager.holding c.loop-place.pager in
    let m' = g.P.Pager.holding c.serve-pulls.new.self in
    let inv = c.loop-place.invariant in
    let room : HasRoom c.args.plan.now (length (plan_words (held_on b c.codes-codes.result.now) (length c.codes-codes.result.now))) =
    rw c.codes-codes.ensures.codes c.requires in
    plan_room b m m' c.codes-codes.result.now c.loop-place.place c.loop-place-test.true inv.0 c.serve-pulls.ensures.moves
    (pages c.loop-place.before) (pages c.snapshot-after.result) inv.1 c.snapshot-after.ensures room inv.2

pub loop-place-preserved : goal.loop-place-preserved
loop-place-preserved g c =
    let b = g.P.Pager.holding c.args.pager.now in
    let m = g.P.Pager.holding c.loop-place.pager in
    let m' = g.P.Pager.holding c.serve-pulls.new.self in
    let s = c.codes-codes.result.now in
    let t = c.loop-place.place in
    let inv = c.loop-place.invariant in
    let next = after_step b m m' s t c.loop-place-test.true inv.0 c.serve-pulls.ensures.moves in
    let room = c.serve-pulls.ensures.frames ∙ inv.3 in
    let W : Output ℕ → Type 0 = λ q. Writes c.args.plan.now (plan_words (held_on b s) (t + 1)) q in
    elim c.if-pulls-gt0.branch [
      | then-pulls-gt0 w ↦ (
        next,
        ap pages w.before-is ∙ w.snapshot-after.ensures,
        subst W (sym w.plan-is)
            (plan_wrote b m m' s t c.loop-place-test.true inv.0 c.serve-pulls.ensures.moves
            (pages c.loop-place.before) (pages w.snapshot-after.result) inv.1 w.snapshot-after.ensures inv.2 w.write.ensures),
        room,
      )
      | else-pulls-gt0+else-held_count-len w ↦
          let none : pulled (m []) (m' []) ≡ 0 = sym c.serve-pulls.ensures.answer ∙ omega (arith, w.if-pulls-gt0.false) in
          let same : size (m' []) ≡ size (m []) =
          sym w.held_count.ensures ∙ w.if-held_count-len.false ∙ w.len.ensures ∙ ap size inv.1 ∙ clip_size (m []) in
          let still = plan_still b m m' s t c.loop-place-test.true inv.0 c.serve-pulls.ensures.moves none same in (
            next,
            ap pages w.before-is ∙ inv.1 ∙ clip_same (m []) (m' []) (nothing_moved (m []) (m' []) none same),
            subst W (sym w.plan-is) (subst (λ (ws : List ℕ). Writes c.args.plan.now ws c.loop-place.plan) (sym still) inv.2),
            room,
          )
    ]
