-- The codes asked for so far. Assumes nothing.
use Rattle.std.proofs.Common.{◌≡◌, []}
use Rattle.paging.specs.Pages.{nothing}
use Rattle.paging.specs.Sets.{pages}
use Rattle.pager.specs.Prepaging.{filled}
use Rattle.pager.proofs.plans.snapshot.Given as goal

abbrev pub invariant-loop-code : goal.invariant-loop-code
invariant-loop-code g l = pages l.held ≡ filled nothing l.code (g.P.Pager.holding l.pager [])
