-- Numbers and their bits: each gives the other back.
use Rattle.std.proofs.Common.{◌≡◌, ℕ, zero, suc, ◌+◌, ◌-◌, ◌*◌, ◌/◌, ◌^◌, ◌<◌, ◌≤◌, List, [], ◌∷◌, ◌++◌, length, take, refl, ap, ◌∙◌, suc-mul, pow-suc, arith, lit<}
use Rattle.std.proofs.lemmas.List.{get_or-take}
use native.Mathlib.Nat.{zero-div}
use Rattle.recording.specs.Bits.{bit_in, bit_of, number_at, numbers_at}

-- the number in the bits from i to k, and one bit more, which is bit k
pub number_none : (b : ℕ → ℕ) (i : ℕ) → 0 ≡ number_at b i (i - i)
unfolding number_at
number_none b i = let z : i - i ≡ 0 = omega arith in rw z refl

pub bit_none : (i : ℕ) → 0 < 2 ^ (i - i)
bit_none i = let z : i - i ≡ 0 = omega arith in rw z (lit< tt)

pub number_more : (b : ℕ → ℕ) (i k v d : ℕ) → i ≤ k → v ≡ number_at b i (k - i) → d ≡ b k → v * 2 + d ≡ number_at b i (k + 1 - i)
unfolding number_at
number_more b i k v d h e f =
    let next : k + 1 - i ≡ suc (k - i) = omega arith in
    let at : i + (k - i) ≡ k = omega arith in
    rw (next, at) (ap (λ n. n * 2 + d) e ∙ ap (λ n. number_at b i (k - i) * 2 + n) f)

pub bit_more : (i k v d : ℕ) → i ≤ k → v < 2 ^ (k - i) → d < 2 → v * 2 + d < 2 ^ (k + 1 - i)
bit_more i k v d h l b = let next : k + 1 - i ≡ suc (k - i) = omega arith in rw (next, pow-suc) (omega arith)

pub number_same : (b c : ℕ → ℕ) (i j n : ℕ) → ((k : ℕ) → k < n → b (i + k) ≡ c (j + k)) → number_at b i n ≡ number_at c j n
unfolding number_at
number_same b c i j zero same = refl
number_same b c i j (suc n) same =
    let e = number_same b c i j n (λ k h. same k (omega arith)) in
    let f = same n (omega arith) in
    cc

-- the bits of the first bytes
pub bit_of_take : (xs : List ℕ) (m i : ℕ) → i < m * 8 → bit_of 8 (take m xs) i ≡ bit_of 8 xs i
bit_of_take xs m i h = let l : i / 8 < m = omega arith in rw (get_or-take m xs (i / 8) 0 l)

pub number_take : (xs : List ℕ) (m i n : ℕ) → i + n ≤ m * 8 → number_at (bit_of 8 (take m xs)) i n ≡ number_at (bit_of 8 xs) i n
number_take xs m i n h = number_same (bit_of 8 (take m xs)) (bit_of 8 xs) i i n (λ k l. bit_of_take xs m (i + k) (omega arith))

-- a number of n bits is below 2 ^ n
pub number_below : (b : ℕ → ℕ) → ((k : ℕ) → b k < 2) → (i n : ℕ) → number_at b i n < 2 ^ n
unfolding number_at
number_below b bits i zero = omega arith
number_below b bits i (suc n) =
    let h = number_below b bits i n in
    let d = bits (i + n) in
    rw pow-suc (omega arith)

pub bit_below : (w : ℕ) (xs : List ℕ) (i : ℕ) → bit_of w xs i < 2
bit_below w xs i = omega arith

-- the first of a row of numbers, and the rest
pub numbers_more : (b : ℕ → ℕ) (w at i count : ℕ) → i < count → numbers_at b w at (count - i) ≡ number_at b at w ∷ numbers_at b w (at + w) (count - (i + 1))
unfolding numbers_at
numbers_more b w at i count h =
    let e : count - i ≡ suc (count - (i + 1)) = omega arith in
    ap (numbers_at b w at) e

pub numbers_none : (b : ℕ → ℕ) (w at i count : ℕ) → count ≤ i → numbers_at b w at (count - i) ≡ []
unfolding numbers_at
numbers_none b w at i count h =
    let e : count - i ≡ 0 = omega arith in
    ap (numbers_at b w at) e

pub length_numbers : (b : ℕ → ℕ) (w i n : ℕ) → length (numbers_at b w i n) ≡ n
unfolding numbers_at
length_numbers b w i zero = refl
length_numbers b w i (suc n) = ap suc (length_numbers b w (i + w) n)

-- a row of numbers, one longer at its end
pub numbers_push : (b : ℕ → ℕ) (w i n : ℕ) → numbers_at b w i (suc n) ≡ numbers_at b w i n ++ number_at b (i + n * w) w ∷ []
unfolding numbers_at
numbers_push b w i zero = let e : i ≡ i + 0 * w = omega arith in ap (λ (j : ℕ). number_at b j w ∷ []) e
numbers_push b w i (suc n) =
    let e : i + w + n * w ≡ i + suc n * w = rw (suc-mul n w) (omega arith) in
    ap (λ (ys : List ℕ). number_at b i w ∷ ys) (numbers_push b w (i + w) n ∙ ap (λ (j : ℕ). numbers_at b w (i + w) n ++ number_at b j w ∷ []) e)

-- zero has no bit that is set
pub zero_bit : (w i : ℕ) → bit_in w 0 i ≡ 0
zero_bit w i = rw (zero-div (2 ^ (w - 1 - i)))
