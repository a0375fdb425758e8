-- The plan, as far as the place at hand. Assumes nothing.
use Rattle.std.proofs.Common.{◌≡◌, []}
use Rattle.output.specs.Outputs.{Writes}
use Rattle.paging.specs.Models.{after, held_on}
use Rattle.paging.specs.Sets.{pages}
use Rattle.pager.specs.Plans.{plan_words}
use Rattle.pager.proofs.Planned.{clip}
use Rattle.pager.proofs.plans.write_moves.Given as goal

abbrev pub invariant-loop-place : goal.invariant-loop-place
invariant-loop-place g l =
    let b = g.P.Pager.holding l.initial.pager in
    (g.P.Pager.holding l.pager ≡ after b l.codes l.place) ×
    (pages l.before ≡ clip (g.P.Pager.holding l.pager [])) ×
    Writes l.initial.plan (plan_words (held_on b l.codes) l.place) l.plan ×
    (g.P.Pager.room l.pager ≡ g.P.Pager.room l.initial.pager)
