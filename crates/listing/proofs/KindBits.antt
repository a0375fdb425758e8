-- The kind bits of a recording's first byte. Assumes nothing.
use Rattle.std.proofs.Common.{◌≡◌, ℕ, ◌/◌, ◌%◌, List, get_or, arith}
use Rattle.recording.specs.Bits.{bit_of, number_at}

pub kind_bits : (bytes : List ℕ) → number_at (bit_of 8 bytes) 4 2 ≡ get_or bytes 0 0 / 4 % 4
unfolding number_at
kind_bits bytes = omega arith
