-- The words written so far. Assumes nothing.
use Rattle.output.specs.Outputs.{Writes}
use Rattle.paging.specs.Sets.{pages}
use Rattle.pager.specs.Kinds.{kind_bit, moved}
use Rattle.pager.specs.Plans.{words}
use Rattle.pager.proofs.plans.step.Step.write_kind.Given as goal

abbrev pub invariant-loop-code : goal.invariant-loop-code
invariant-loop-code l =
    Writes l.initial.plan (words l.self.place (kind_bit l.kind) (moved l.kind (pages l.self.before.now) (pages l.self.after.now)) l.code) l.plan
