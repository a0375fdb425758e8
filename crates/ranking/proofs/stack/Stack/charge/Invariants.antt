use Rattle.std.proofs.Common.{◌≡◌, ℕ, ◌+◌, ◌<◌, ◌≤◌, get_or}
use Rattle.ranking.proofs.stack.Stack.charge.Given as goal

abbrev pub invariant-loop-faults : goal.invariant-loop-faults
invariant-loop-faults l =
    ((k : ℕ) → k < l.faults-index → get_or l.faults-items k 0 ≡ get_or l.initial.faults-items k 0 + 1) ×
    ((k : ℕ) → l.faults-index ≤ k → get_or l.faults-items k 0 ≡ get_or l.initial.faults-items k 0) ×
    ((k : ℕ) → l.faults-index ≤ k → get_or l.faults-items k 0 ≤ 65536)
