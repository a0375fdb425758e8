use Rattle.std.proofs.Common.{◌≡◌, ℕ, ◌+◌, ◌<◌, length, get_or}
use Rattle.paging.specs.declared.policy.Policy.TheVariants.{Dpmin}
use Rattle.evaluator.specs.Answers.{instants_at}
use Rattle.evaluator.proofs.edges.dpmin_row.Given as goal

abbrev pub invariant-loop-k : goal.invariant-loop-k
invariant-loop-k l = (length l.faults-items ≡ 64) × ((j : ℕ) → j < l.k → get_or l.faults-items j 0 ≡ instants_at Dpmin l.string (j + 1))
