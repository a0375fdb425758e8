use Rattle.std.proofs.Common.{ap, arith}
use Rattle.paging.specs.Pages.{size}
use Rattle.paging.proofs.Sets.{size_nothing}
use Rattle.paging.proofs.held.HeldPages.new.Goals as goal

pub invariant_of-result : goal.invariant_of-result
invariant_of-result c = record { within = omega (arith, ap size c.new.ensures, size_nothing) }
