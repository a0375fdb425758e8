-- Sums over the numbers below n. Assumes nothing.
use Rattle.std.proofs.Common.{◌≡◌, ℕ, zero, suc, ◌+◌, ◌<◌, ◌≤◌, min, Bool, true, ◌&&◌, eqb, ltb, ◌⊎◌, refl, inl, inr, arith}
use Rattle.std.proofs.lemmas.Bool.Decides.{nat_tests}
use Rattle.std.proofs.lemmas.Bool.{eq-eqb, ne_eqb, lt-ltb, le-ltb, cases_eq, cases_lt}
use Rattle.paging.specs.Pages.{bit, total}

pub total_none : (g : ℕ → ℕ) → total 0 g ≡ 0
unfolding total
total_none g = refl

pub total_suc : (n : ℕ) (g : ℕ → ℕ) → total (suc n) g ≡ g n + total n g
unfolding total
total_suc n g = refl

pub total_le : (n : ℕ) (g h : ℕ → ℕ) → ((c : ℕ) → c < n → g c ≤ h c) → total n g ≤ total n h
unfolding total
total_le zero g h e = omega arith
total_le (suc n) g h e =
    let r = total_le n g h (λ c l. e c (omega arith)) in
    let q = e n (omega arith) in
    omega arith

pub total_add : (n : ℕ) (g h : ℕ → ℕ) → total n (λ c. g c + h c) ≡ total n g + total n h
unfolding total
total_add zero g h = refl
total_add (suc n) g h = let r = total_add n g h in omega arith

pub total_zero : (n : ℕ) (g : ℕ → ℕ) → ((c : ℕ) → c < n → g c ≡ 0) → total n g ≡ 0
unfolding total
total_zero zero g e = refl
total_zero (suc n) g e =
    let r = total_zero n g (λ c l. e c (omega arith)) in
    let q = e n (omega arith) in
    omega arith

-- a longer sum is no less
pub total_longer : (m n : ℕ) (g : ℕ → ℕ) → m ≤ n → total m g ≤ total n g
unfolding total
total_longer m zero g l = let e : m ≡ 0 = omega arith in rw e (omega arith)
total_longer m (suc n) g l = go (cases_eq m (suc n)) (total_longer m n g)
  where
    go : (m ≡ suc n) ⊎ (m ≡ suc n → ⊥) → (m ≤ n → total m g ≤ total n g) → total m g ≤ total (suc n) g
    go (inl e) _ = rw e (omega arith)
    go (inr ne) r = omega (arith, r (omega arith))

-- two sums against two sums, number by number
pub total_le₂ : (n : ℕ) (a b c d : ℕ → ℕ) → ((i : ℕ) → i < n → a i + b i ≤ c i + d i) → total n a + total n b ≤ total n c + total n d
total_le₂ n a b c d e =
    omega (arith, total_add n a b, total_add n c d, total_le n (λ i. a i + b i) (λ i. c i + d i) e)

pub total-eq₂ : (n : ℕ) (a b c d : ℕ → ℕ) → ((i : ℕ) → i < n → a i + b i ≡ c i + d i) → total n a + total n b ≡ total n c + total n d
total-eq₂ n a b c d e =
    omega (arith, total_le₂ n a b c d (λ i l. omega (arith, e i l)), total_le₂ n c d a b (λ i l. omega (arith, e i l)))

-- a sum with one number of its own
pub only_none : (n x : ℕ) (b : Bool) → n ≤ x → total n (λ c. bit (eqb x c && b)) ≡ 0
only_none n x b l = total_zero n (λ c. bit (eqb x c && b)) (λ c h. grind (arith, nat_tests))

pub only_one : (n x : ℕ) (b : Bool) → x < n → total n (λ c. bit (eqb x c && b)) ≡ bit b
unfolding total
only_one zero x b l = omega arith
only_one (suc n) x b l = go (cases_eq x n) (only_one n x b)
  where
    go : (x ≡ n) ⊎ (x ≡ n → ⊥) → (x < n → total n (λ c. bit (eqb x c && b)) ≡ bit b) → bit (eqb x n && b) + total n (λ c. bit (eqb x c && b)) ≡ bit b
    go (inl e) _ = rw (eq-eqb x n e) (omega (arith, only_none n x b (omega arith)))
    go (inr ne) r = rw (ne_eqb x n ne) (omega (arith, r (omega arith)))

pub only_most : (n x : ℕ) (b : Bool) → total n (λ c. bit (eqb x c && b)) ≤ bit b
only_most n x b = go (cases_lt x n)
  where
    go : (x < n) ⊎ (n ≤ x) → total n (λ c. bit (eqb x c && b)) ≤ bit b
    go (inl l) = omega (arith, only_one n x b l)
    go (inr g) = omega (arith, only_none n x b g)

-- how many of the numbers below n are below l
pub total_below : (n l : ℕ) → total n (λ c. bit (ltb c l)) ≡ min n l
unfolding total
total_below zero l = omega arith
total_below (suc n) l = go (cases_lt n l) (total_below n l)
  where
    go : (n < l) ⊎ (l ≤ n) → total n (λ c. bit (ltb c l)) ≡ min n l → bit (ltb n l) + total n (λ c. bit (ltb c l)) ≡ min (suc n) l
    go (inl h) r = rw (lt-ltb n l h) (omega (arith, r))
    go (inr h) r = rw (le-ltb n l h) (omega (arith, r))

-- a set that has x is not empty
pub member : (n x : ℕ) (M : ℕ → Bool) → x < n → M x ≡ true → 1 ≤ total n (λ c. bit (M c))
member n x M l h =
    omega (
      arith,
      only_one n x true l,
      total_le n (λ c. bit (eqb x c && true)) (λ c. bit (M c)) (λ c _. pointwise c (cases_eq x c)),
    )
  where
    pointwise : (c : ℕ) → (x ≡ c) ⊎ (x ≡ c → ⊥) → bit (eqb x c && true) ≤ bit (M c)
    pointwise c (inl e) = rw (← e, h) (grind (arith, nat_tests))
    pointwise c (inr ne) = rw (ne_eqb x c ne) (omega arith)
