-- Rows of bits, the most significant first: the bits of a row of numbers, and the number in some bits. Assumes nothing.
use Rattle.std.specs.Prelude.{ℕ, zero, suc, ◌+◌, ◌-◌, ◌*◌, ◌/◌, ◌%◌, ◌^◌, List, [], ◌∷◌, slice_index}

-- bit i of the w bits of the number x, the most significant being bit 0
abbrev pub bit_in : ℕ → ℕ → ℕ → ℕ
bit_in w x i = (x / 2 ^ (w - 1 - i)) % 2

-- bit i of a row of numbers that have w bits each; behind the row all bits are zero
abbrev pub bit_of : ℕ → List ℕ → ℕ → ℕ
bit_of w xs i = bit_in w (slice_index xs (i / w)) (i % w)

-- the number in the n bits of b from bit i on
unfoldable pub number_at : (ℕ → ℕ) → ℕ → ℕ → ℕ
number_at b i zero = 0
number_at b i (suc n) = number_at b i n * 2 + b (i + n)

-- the row of n numbers in the bits of b from bit i on, w bits each
unfoldable pub numbers_at : (ℕ → ℕ) → ℕ → ℕ → ℕ → List ℕ
numbers_at b w i zero = []
numbers_at b w i (suc n) = number_at b i w ∷ numbers_at b w (i + w) n
