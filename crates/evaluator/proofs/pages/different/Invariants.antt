use Rattle.std.proofs.Common.{◌≡◌, take}
use Rattle.paging.specs.Pages.{has}
use Rattle.paging.specs.Sets.{pages}
use Rattle.evaluator.proofs.pages.different.Given as goal

abbrev pub invariant-loop-code : goal.invariant-loop-code
invariant-loop-code l = pages l.seen ≡ has (take l.code-index l.string)
