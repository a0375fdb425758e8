-- How many pages of a set are referenced before a threshold. Assumes nothing.
use Rattle.std.proofs.Common.{◌≡◌, ℕ, suc, ◌+◌, ◌<◌, ◌≤◌, Bool, true, false, not, ◌&&◌, ◌||◌, eqb, ltb, ◌⊎◌, List, ◌∷◌, refl, inl, inr, arith}
use Rattle.std.proofs.lemmas.Bool.Decides.{nat_tests}
use Rattle.std.proofs.lemmas.Bool.{eq-eqb, ne_eqb, lt-ltb, cases_eq, cases_Bool}
use Rattle.paging.specs.Pages.{bit, total, codes, Pages, size, with_page, without}
use Rattle.paging.specs.Schedules.{next, pulled}
use Rattle.paging.proofs.Sums.{total_le, total-eq₂, total_add, total_zero, only_one, only_most}
use Rattle.paging.proofs.Next.{next_here, next_other}

-- how many pages of the set M have a key below θ
abbrev pub near : (ℕ → ℕ) → Pages → ℕ → ℕ
near k M θ = total codes (λ c. bit (M c && ltb (k c) θ))

-- what a change of the set adds, it pulls
pub near_pulled : (k : ℕ → ℕ) (H H' : Pages) (θ : ℕ) → near k H' θ ≤ near k H θ + pulled H H'
near_pulled k H H' θ =
    omega (
      arith,
      total_add codes (λ c. bit (H c && ltb (k c) θ)) (λ c. bit (H' c && not (H c))),
      total_le codes (λ c. bit (H' c && ltb (k c) θ)) (λ c. bit (H c && ltb (k c) θ) + bit (H' c && not (H c))) (λ c _. each (H c) (H' c) (ltb (k c) θ)),
    )
  where
    each : (h h' b : Bool) → bit (h' && b) ≤ bit (h && b) + bit (h' && not h)
    each h h' b = grind arith

-- no key is below 0
pub near_none : (k : ℕ → ℕ) (M : Pages) → near k M 0 ≡ 0
near_none k M = total_zero codes (λ c. bit (M c && ltb (k c) 0)) (λ c _. grind (arith, nat_tests))

pub near_size : (k : ℕ → ℕ) (M : Pages) (θ : ℕ) → near k M θ ≤ size M
near_size k M θ = total_le codes (λ c. bit (M c && ltb (k c) θ)) (λ c. bit (M c)) (λ c _. grind (arith, nat_tests))

-- where all of a set has keys below θ, it is counted whole
pub near_all : (k : ℕ → ℕ) (M : Pages) (θ : ℕ) → ((c : ℕ) → c < codes → M c ≡ true → k c < θ) → size M ≤ near k M θ
near_all k M θ all = total_le codes (λ c. bit (M c)) (λ c. bit (M c && ltb (k c) θ)) (λ c l. each c l (cases_Bool (M c)))
  where
    each : (c : ℕ) → c < codes → (M c ≡ true) ⊎ (M c ≡ false) → bit (M c) ≤ bit (M c && ltb (k c) θ)
    each c l (inl e) = rw (e, lt-ltb (k c) θ (all c l e)) (omega arith)
    each c l (inr e) = rw e (omega arith)

-- the place moves on: the page x at hand is of the set, and its key alone changes otherwise than by one
pub near_on : (x : ℕ) (xs : List ℕ) (M : Pages) (θ : ℕ) → x < codes → M x ≡ true →
    near (next xs) M θ + 1 ≡ near (next (x ∷ xs)) M (suc θ) + bit (ltb (next xs x) θ)
near_on x xs M θ l h =
    omega (
      arith,
      only_one codes x true l,
      only_one codes x (ltb (next xs x) θ) l,
      total-eq₂ codes (λ c. bit (M c && ltb (next xs c) θ)) (λ c. bit (eqb x c && true))
          (λ c. bit (M c && ltb (next (x ∷ xs) c) (suc θ))) (λ c. bit (eqb x c && ltb (next xs x) θ))
          (λ c _. each c (cases_eq x c)),
    )
  where
    each : (c : ℕ) → (x ≡ c) ⊎ (x ≡ c → ⊥) →
        bit (M c && ltb (next xs c) θ) + bit (eqb x c && true) ≡ bit (M c && ltb (next (x ∷ xs) c) (suc θ)) + bit (eqb x c && ltb (next xs x) θ)
    each c (inl e) = rw (← e, next_here, h) (grind (arith, nat_tests))
    each c (inr ne) = rw (next_other x xs c ne) (grind (arith, nat_tests))

pub near_with : (k : ℕ → ℕ) (x : ℕ) (M : Pages) (θ : ℕ) → x < codes → M x ≡ false → k x < θ →
    near k M θ + 1 ≤ near k (with_page x M) θ
near_with k x M θ l miss low =
    omega (
      arith,
      only_one codes x true l,
      total_add codes (λ c. bit (M c && ltb (k c) θ)) (λ c. bit (eqb x c && true)),
      total_le codes (λ c. bit (M c && ltb (k c) θ) + bit (eqb x c && true)) (λ c. bit (with_page x M c && ltb (k c) θ)) (λ c _. each c (cases_eq x c)),
    )
  where
    each : (c : ℕ) → (x ≡ c) ⊎ (x ≡ c → ⊥) → bit (M c && ltb (k c) θ) + bit (eqb x c && true) ≤ bit ((eqb x c || M c) && ltb (k c) θ)
    each c (inl e) = rw (← e, miss, lt-ltb (k x) θ low) (grind (arith, nat_tests))
    each c (inr ne) = rw (ne_eqb x c ne) (grind (arith, nat_tests))

pub near_without : (k : ℕ → ℕ) (z : ℕ) (M : Pages) (θ : ℕ) → near k M θ ≤ near k (without z M) θ + bit (ltb (k z) θ)
near_without k z M θ =
    omega (
      arith,
      only_most codes z (ltb (k z) θ),
      total_add codes (λ c. bit (without z M c && ltb (k c) θ)) (λ c. bit (eqb z c && ltb (k z) θ)),
      total_le codes (λ c. bit (M c && ltb (k c) θ)) (λ c. bit (without z M c && ltb (k c) θ) + bit (eqb z c && ltb (k z) θ)) (λ c _. each c (cases_eq z c)),
    )
  where
    each : (c : ℕ) → (z ≡ c) ⊎ (z ≡ c → ⊥) → bit (M c && ltb (k c) θ) ≤ bit ((not (eqb z c) && M c) && ltb (k c) θ) + bit (eqb z c && ltb (k z) θ)
    each c (inl e) = rw (← e, eq-eqb z z refl) (grind (arith, nat_tests))
    each c (inr ne) = rw (ne_eqb z c ne) (grind (arith, nat_tests))
