use Rattle.std.proofs.Common.{ap, arith}
use Rattle.paging.specs.Pages.{size}
use Rattle.paging.specs.Sets.{pages}
use Rattle.paging.proofs.Sets.{size_without}
use Rattle.paging.proofs.held.HeldPages.remove.Goals as goal

pub invariant_of-self : goal.invariant_of-self
invariant_of-self c =
    record { within = omega (arith, ap size c.remove.ensures, size_without c.args.code (pages c.args.self.now.set), c.args.self.now.within) }
