-- How many digits a number has. Assumes nothing.
use Rattle.std.proofs.Common.{◌≡◌, ℕ, [], ◌∷◌, zero, suc, ◌+◌, ◌*◌, ◌/◌, ◌%◌, ◌^◌, ◌<◌, ◌≤◌, length, decimal, max, sym, ap, ◌∙◌, arith}
use Rattle.std.proofs.lemmas.Fmt.{decimal_digit, decimal_step, decimal_nonempty, length-decimal-le}
use Rattle.std.proofs.lemmas.List.{length_push}
use Rattle.std.proofs.Math.Nat.{pow-suc, one-le-pow}

-- a number below 10 is its last digit
pub digit_alone : (n : ℕ) → n < 10 → decimal n ≡ (48 + n % 10) ∷ []
digit_alone n h =
    let e : n % 10 ≡ n = omega arith in
    decimal_digit n h ∙ ap (λ (d : ℕ). (48 + d) ∷ []) (sym e)

pub length_one : (n : ℕ) → n < 10 → length (decimal n) ≡ 1
length_one n h = ap length (decimal_digit n h)

-- one digit more than a tenth of the number has
pub length_more : (n : ℕ) → 10 ≤ n → n < 2 ^ 64 → length (decimal n) ≡ length (decimal (n / 10)) + 1
length_more n h f = ap length (decimal_step n h f) ∙ length_push (decimal (n / 10)) (48 + n % 10)

-- a number from the kth power of ten on has more than k digits
pub more_digits : (k n : ℕ) → 10 ^ k ≤ n → n < 2 ^ 64 → k < length (decimal n)
more_digits zero n h f = decimal_nonempty n f
more_digits (suc k) n h f =
    let e : 10 ^ k * 10 ≤ n = omega (arith, pow-suc 10 k) in
    omega (arith, more_digits k (n / 10) (omega arith) (omega arith), length_more n (omega (arith, one-le-pow k 10 (omega arith))) f)

-- by the power of ten that a number reaches
pub length_by_power : (k n : ℕ) → 10 ^ k ≤ n → n < 10 * 10 ^ k → n < 2 ^ 64 → length (decimal n) ≡ k + 1
length_by_power k n h l f =
    let few : n < 10 ^ suc k = omega (arith, pow-suc 10 k) in
    omega (arith, more_digits k n h f, length-decimal-le (suc k) n (omega arith) few f)

-- 0 has as many digits as 1
pub length_at_least_one : (n : ℕ) → length (decimal (max n 1)) ≡ length (decimal n)
length_at_least_one zero =
    let e : max 0 1 ≡ 1 = omega arith in
    ap (λ (m : ℕ). length (decimal m)) e ∙ length_one 1 (omega arith) ∙ sym (length_one 0 (omega arith))
length_at_least_one (suc n) =
    let e : max (suc n) 1 ≡ suc n = omega arith in
    ap (λ (m : ℕ). length (decimal m)) e
