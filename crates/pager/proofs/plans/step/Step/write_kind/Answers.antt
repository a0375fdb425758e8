-- One code more. Assumes nothing.
use Rattle.std.proofs.Common.{ℕ, List, ◌∷◌, [], ◌+◌, sym, ◌∙◌, subst, arith}
use Rattle.output.specs.declared.Output.{Output}
use Rattle.output.specs.Outputs.{Writes}
use Rattle.output.proofs.Outputs.{writes_none}
use Rattle.paging.specs.Pages.{codes}
use Rattle.paging.specs.Sets.{pages}
use Rattle.pager.specs.Kinds.{kind_bit, moved}
use Rattle.pager.specs.Plans.{words}
use Rattle.pager.proofs.Words.{words_none, written_yes, written_no, word_room}
use Rattle.pager.proofs.plans.step.Step.write_kind.Goals as goal
use Rattle.pager.proofs.plans.step.Step.write_kind.Goals.{Joined-moves, then-moves, else-moves}

pub loop-code-init : goal.loop-code-init
loop-code-init c =
    let P = moved c.args.kind (pages c.args.self.now.before.now) (pages c.args.self.now.after.now) in
    subst (λ (ws : List ℕ). Writes c.args.plan.now ws c.args.plan.now) (sym (words_none c.args.self.now.place (kind_bit c.args.kind) P)) (writes_none c.args.plan.now)

pub push-requires : goal.push-requires
push-requires c =
    let P = moved c.args.kind (pages c.args.self.now.before.now) (pages c.args.self.now.after.now) in
    word_room c.args.self.now.place (kind_bit c.args.kind) P c.loop-code.code codes (omega (arith, c.loop-code-test.true)) (sym c.moves.ensures ∙ c.if-moves.true) c.requires c.loop-code.invariant

one_more : (c : Joined-moves) →
    Writes c.args.plan.now (words c.args.self.now.place (kind_bit c.args.kind) (moved c.args.kind (pages c.args.self.now.before.now) (pages c.args.self.now.after.now)) (c.loop-code.code + 1)) c.if-moves.plan
one_more c =
    let p = c.args.self.now.place in
    let k = kind_bit c.args.kind in
    let P = moved c.args.kind (pages c.args.self.now.before.now) (pages c.args.self.now.after.now) in
    let n = c.loop-code.code in
    elim c.if-moves.branch [
      | then-moves w ↦
          subst (λ (b : Output ℕ). Writes c.args.plan.now (words p k P (n + 1)) b) (sym w.plan-is)
          (written_yes p k P n (sym c.moves.ensures ∙ w.if-moves.true) c.loop-code.invariant
          (subst (λ (word : ℕ). Writes c.loop-code.plan (word ∷ []) w.push.new.self) w.word.ensures w.push.ensures))
      | else-moves w ↦
          subst (λ (b : Output ℕ). Writes c.args.plan.now (words p k P (n + 1)) b) (sym w.plan-is)
          (written_no p k P n (sym c.moves.ensures ∙ w.if-moves.false) c.loop-code.invariant)
    ]

pub loop-code-preserved : goal.loop-code-preserved
loop-code-preserved c = one_more (goal.at.loop-code-preserved c).Joined-moves

pub returns-after-moves : goal.returns-after-moves
returns-after-moves c =
    let P = moved c.args.kind (pages c.args.self.now.before.now) (pages c.args.self.now.after.now) in
    subst (λ (n : ℕ). Writes c.args.plan.now (words c.args.self.now.place (kind_bit c.args.kind) P n) c.if-moves.plan) (omega arith)
    (one_more (goal.at.returns-after-moves c).Joined-moves)
