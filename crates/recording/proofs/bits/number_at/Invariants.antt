-- The number so far is that of the bits asked so far.
use Rattle.std.proofs.Common.{◌≡◌, ℕ, ◌-◌, ◌^◌, ◌<◌}
use Rattle.recording.specs.Bits.{number_at}
use Rattle.recording.proofs.bits.number_at.Given as goal

abbrev pub invariant-loop-k : goal.invariant-loop-k
invariant-loop-k g l = record {
  is : (b : ℕ → ℕ) → ((k r : ℕ) → goal.F-post g l.bit k r → r ≡ b k) → l.number ≡ number_at b l.i (l.k - l.i);
  fits : l.number < 2 ^ (l.k - l.i);
}
