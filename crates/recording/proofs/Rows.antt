-- Rows of numbers and rows of bits: each gives the other back.
use Rattle.std.proofs.Common.{◌≡◌, ℕ, zero, suc, ◌+◌, ◌-◌, ◌*◌, ◌/◌, ◌%◌, ◌^◌, ◌<◌, ◌≤◌, List, length, get_or, sym, refl, ap, ◌∙◌, ⊎_elim, mul_assoc, suc-mul, pow-suc, div-add-mod', div-one, arith}
use native.Mathlib.Nat.{div-div-eq-div-mul, div-eq_of_lt}
use Rattle.std.proofs.lemmas.Nat.{div-mul-add, mod-mul-add, div_below, mod_below}
use Rattle.std.proofs.lemmas.List.{ext_get_or}
use Rattle.std.proofs.lemmas.Bool.{cases_eq}
use Rattle.recording.specs.Bits.{bit_in, bit_of, number_at, numbers_at}
use Rattle.recording.proofs.Bitwise.{number_same, length_numbers}

-- halving: one bit less
half_pow : (x j : ℕ) → x / 2 ^ suc j ≡ x / 2 / 2 ^ j
half_pow x j = rw (div-div-eq-div-mul x 2 (2 ^ j)) (ap (λ (p : ℕ). x / p) (pow-suc 2 j ∙ omega arith))

pow_half : (x j : ℕ) → x / 2 ^ suc j ≡ x / 2 ^ j / 2
pow_half x j = ap (λ (p : ℕ). x / p) (pow-suc 2 j) ∙ sym (div-div-eq-div-mul x (2 ^ j) 2)

last_bit : (x d m k : ℕ) → d < 2 → k ≡ m → bit_in (suc m) (x * 2 + d) k ≡ d
last_bit x d m k h e =
    let z : suc m - 1 - k ≡ 0 = omega arith in
    ap (λ (j : ℕ). (x * 2 + d) / 2 ^ j % 2) z ∙ ap (λ (y : ℕ). y % 2) (div-one (x * 2 + d)) ∙ omega arith

earlier_bit : (x d m k : ℕ) → d < 2 → k < m → bit_in (suc m) (x * 2 + d) k ≡ bit_in m x k
earlier_bit x d m k h l =
    let s : suc m - 1 - k ≡ suc (m - 1 - k) = omega arith in
    let f : (x * 2 + d) / 2 ≡ x = omega arith in
    ap (λ (j : ℕ). (x * 2 + d) / 2 ^ j % 2) s
    ∙ ap (λ (y : ℕ). y % 2) (half_pow (x * 2 + d) (m - 1 - k))
    ∙ ap (λ (y : ℕ). y / 2 ^ (m - 1 - k) % 2) f

-- each bit of the number in some bits
pub bit_of_number : (b : ℕ → ℕ) → ((k : ℕ) → b k < 2) → (i n k : ℕ) → k < n → bit_in n (number_at b i n) k ≡ b (i + k)
unfolding number_at
bit_of_number b low i zero k h = absurd (omega arith)
bit_of_number b low i (suc m) k h = ⊎_elim
    (λ (e : k ≡ m). last_bit (number_at b i m) (b (i + m)) m k (low (i + m)) e ∙ ap (λ (j : ℕ). b (i + j)) (sym e))
    (λ (ne : k ≡ m → ⊥). let l : k < m = omega arith in earlier_bit (number_at b i m) (b (i + m)) m k (low (i + m)) l ∙ bit_of_number b low i m k l)
    (cases_eq k m)

-- the number in the first m of the w bits of x
front_of_bits : (b : ℕ → ℕ) (i w x : ℕ) → x < 2 ^ w → ((k : ℕ) → k < w → b (i + k) ≡ bit_in w x k) → (m : ℕ) → m ≤ w → number_at b i m ≡ x / 2 ^ (w - m)
unfolding number_at
front_of_bits b i w x h bits zero l = let z : w ≡ w - 0 = omega arith in sym (div-eq_of_lt h) ∙ ap (λ (j : ℕ). x / 2 ^ j) z
front_of_bits b i w x h bits (suc m) l =
    let y = x / 2 ^ (w - 1 - m) in
    let s : w - m ≡ suc (w - 1 - m) = omega arith in
    let e : number_at b i m ≡ y / 2 = front_of_bits b i w x h bits m (omega arith) ∙ ap (λ (j : ℕ). x / 2 ^ j) s ∙ pow_half x (w - 1 - m) in
    let d : b (i + m) ≡ y % 2 = bits m (omega arith) in
    let t : w - 1 - m ≡ w - suc m = omega arith in
    ap (λ (n : ℕ). n * 2 + b (i + m)) e ∙ ap (λ (n : ℕ). y / 2 * 2 + n) d ∙ div-add-mod' y 2 ∙ ap (λ (j : ℕ). x / 2 ^ j) t

-- a number is the number in its bits
pub number_of_bits : (b : ℕ → ℕ) (i w x : ℕ) → x < 2 ^ w → ((k : ℕ) → k < w → b (i + k) ≡ bit_in w x k) → number_at b i w ≡ x
number_of_bits b i w x h bits =
    let z : w - w ≡ 0 = omega arith in
    front_of_bits b i w x h bits w (omega arith) ∙ ap (λ (j : ℕ). x / 2 ^ j) z ∙ div-one x

-- the number in no bit but zero bits
pub number_zero : (b : ℕ → ℕ) (i n : ℕ) → ((k : ℕ) → k < n → b (i + k) ≡ 0) → number_at b i n ≡ 0
unfolding number_at
number_zero b i zero none = refl
number_zero b i (suc n) none =
    let e = number_zero b i n (λ k h. none k (omega arith)) in
    let d = none n (omega arith) in
    omega arith

-- the number in two rows of bits, one behind the other
pub number_split : (b : ℕ → ℕ) (i m n : ℕ) → number_at b i (m + n) ≡ number_at b i m * 2 ^ n + number_at b (i + m) n
unfolding number_at
number_split b i m zero = let z : m + 0 ≡ m = omega arith in ap (number_at b i) z ∙ omega arith
number_split b i m (suc n) =
    let z : m + suc n ≡ suc (m + n) = omega arith in
    let e = number_split b i m n in
    let d : b (i + (m + n)) ≡ b (i + m + n) = ap b (omega arith) in
    ap (number_at b i) z ∙ rw (pow-suc 2 n) (omega (arith, mul_assoc (number_at b i m) (2 ^ n) 2))

-- the first 24 bits as four numbers
pub number_24 : (b : ℕ → ℕ) → number_at b 0 24 ≡ number_at b 0 4 * 1048576 + number_at b 4 2 * 262144 + number_at b 6 2 * 65536 + number_at b 8 16
number_24 b =
    let x = number_split b 0 4 20 in
    let y = number_split b 4 2 18 in
    let z = number_split b 6 2 16 in
    omega arith

pub getd_numbers : (b : ℕ → ℕ) (w i n q : ℕ) → q < n → get_or (numbers_at b w i n) q 0 ≡ number_at b (i + q * w) w
unfolding numbers_at
getd_numbers b w i zero q h = absurd (omega arith)
getd_numbers b w i (suc n) zero h = let e : i ≡ i + 0 * w = omega arith in ap (λ (j : ℕ). number_at b j w) e
getd_numbers b w i (suc n) (suc q) h =
    let e : i + w + q * w ≡ i + suc q * w = rw (suc-mul q w) (omega arith) in
    getd_numbers b w (i + w) n q (omega arith) ∙ ap (λ (j : ℕ). number_at b j w) e

pub numbers_same : (b c : ℕ → ℕ) (w s t n : ℕ) → ((i : ℕ) → i < n * w → b (s + i) ≡ c (t + i)) → numbers_at b w s n ≡ numbers_at c w t n
unfolding numbers_at
numbers_same b c w s t zero same = refl
numbers_same b c w s t (suc n) same =
    let l : suc n * w ≡ n * w + w = suc-mul n w in
    let first = number_same b c s t w (λ k h. same k (omega arith)) in
    let rest = numbers_same b c w (s + w) (t + w) n (λ i h. ap b (omega arith) ∙ same (w + i) (omega arith) ∙ ap c (omega arith)) in
    cc

-- a place in a row: which number, and which bit of it
pub bit_at_place : (w : ℕ) (xs : List ℕ) (q k : ℕ) → k < w → bit_of w xs (q * w + k) ≡ bit_in w (get_or xs q 0) k
bit_at_place w xs q k h =
    ap (λ (j : ℕ). bit_in w (get_or xs j 0) ((q * w + k) % w)) (div-mul-add q w k h)
    ∙ ap (bit_in w (get_or xs q 0)) (mod-mul-add q w k h)

-- a row of numbers is the row of numbers in its bits
pub row_of_bits : (w : ℕ) (xs : List ℕ) → ((q : ℕ) → q < length xs → get_or xs q 0 < 2 ^ w) → xs ≡ numbers_at (bit_of w xs) w 0 (length xs)
row_of_bits w xs low = ext_get_or 0 xs _ (sym (length_numbers (bit_of w xs) w 0 (length xs))) (λ q h.
    sym (getd_numbers (bit_of w xs) w 0 (length xs) q h
    ∙ number_of_bits (bit_of w xs) (0 + q * w) w (get_or xs q 0) (low q h) (λ k l. ap (bit_of w xs) (omega arith) ∙ bit_at_place w xs q k l)))

-- the bits of a row of numbers that was read from bits
pub bits_of_row : (b : ℕ → ℕ) → ((k : ℕ) → b k < 2) → (w n i : ℕ) → 0 < w → i < n * w → bit_of w (numbers_at b w 0 n) i ≡ b i
bits_of_row b low w n i pos h =
    let l : i / w < n = div_below i w n pos h in
    let r : i % w < w = mod_below i w pos in
    let e = div-add-mod' i w in
    ap (λ (x : ℕ). bit_in w x (i % w)) (getd_numbers b w 0 n (i / w) l)
    ∙ bit_of_number b low (0 + i / w * w) w (i % w) r
    ∙ ap b (omega arith)
