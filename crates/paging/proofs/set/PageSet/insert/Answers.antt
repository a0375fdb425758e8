-- One page more. Assumes nothing.
use Rattle.std.proofs.Common.{arith, length-set}
use Rattle.paging.specs.Flags.{flagged}
use Rattle.paging.proofs.Sets.{size_most, count_in}
use Rattle.paging.proofs.set.PageSet.insert.Goals as goal

pub overflow_add-self : goal.overflow_add-self
overflow_add-self c = omega (arith, c.args.self.now.counted, size_most (flagged c.args.self.now.held))

pub invariant_of-self : goal.invariant_of-self
invariant_of-self c = record {
  counted = count_in c.args.self.now.held c.args.code c.args.self.now.count (omega arith) (omega arith) c.if-not-self-code.true c.args.self.now.counted;
  wide = simp length-set c.args.self.now.wide;
}
