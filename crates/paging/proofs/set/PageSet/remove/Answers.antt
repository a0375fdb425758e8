-- One page less. Assumes nothing.
use Rattle.std.proofs.Common.{arith, length-set}
use Rattle.paging.proofs.Sets.{count_out}
use Rattle.paging.proofs.set.PageSet.remove.Goals as goal

pub overflow_sub-self : goal.overflow_sub-self
overflow_sub-self c =
    omega (arith, count_out c.args.self.now.held c.args.code c.args.self.now.count (omega arith) (omega arith) c.if-self-code.true c.args.self.now.counted)

pub invariant_of-self : goal.invariant_of-self
invariant_of-self c = record {
  counted = omega (arith, count_out c.args.self.now.held c.args.code c.args.self.now.count (omega arith) (omega arith) c.if-self-code.true c.args.self.now.counted);
  wide = simp length-set c.args.self.now.wide;
}
