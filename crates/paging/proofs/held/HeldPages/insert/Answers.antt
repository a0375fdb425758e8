use Rattle.std.proofs.Common.{◌≤◌, ap, arith, rules}
use Rattle.paging.specs.Frames.{frames_of}
use Rattle.paging.specs.Pages.{size}
use Rattle.paging.specs.Sets.{pages}
use Rattle.paging.proofs.Sets.{size_with}
use Rattle.paging.proofs.held.HeldPages.insert.Goals as goal

pub invariant_of-self : goal.invariant_of-self
invariant_of-self c =
    let M = pages c.args.self.now.set in
    let free : frames_of c.args.self.now.frames ≤ size M → ⊥ = λ full. search rules in
    record { within = omega (arith, free, ap size c.insert.ensures, size_with c.args.code M) }
