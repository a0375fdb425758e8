-- The next reference to a page, and the latest one. Assumes nothing.
use Rattle.std.proofs.Common.{◌≡◌, ℕ, zero, suc, ◌<◌, ◌≤◌, ◌⊎◌, List, [], ◌∷◌, length, get_or, refl, inl, inr, arith}
use Rattle.std.proofs.lemmas.Bool.{eq-eqb, ne_eqb, cases_eq}
use Rattle.paging.specs.Schedules.{next, latest}

pub next_here : (x : ℕ) (xs : List ℕ) → next (x ∷ xs) x ≡ 0
unfolding next
next_here x xs = rw (eq-eqb x x refl)

pub next_at : (x : ℕ) (xs : List ℕ) (c : ℕ) → x ≡ c → next (x ∷ xs) c ≡ 0
unfolding next
next_at x xs c e = rw (eq-eqb x c e)

pub next_other : (x : ℕ) (xs : List ℕ) (c : ℕ) → (x ≡ c → ⊥) → next (x ∷ xs) c ≡ suc (next xs c)
unfolding next
next_other x xs c ne = rw (ne_eqb x c ne)

pub next_le : (xs : List ℕ) (c : ℕ) → next xs c ≤ length xs
unfolding next
next_le [] c = omega arith
next_le (x ∷ xs) c = let r = next_le xs c in grind arith

-- two pages with one next reference are one page
pub next_same : (xs : List ℕ) (c d : ℕ) → next xs c ≡ next xs d → next xs c < length xs → c ≡ d
next_same [] c d e l = absurd (omega arith)
next_same (x ∷ xs) c d e l = go (cases_eq x c) (cases_eq x d) (next_same xs c d)
  where
    go : (x ≡ c) ⊎ (x ≡ c → ⊥) → (x ≡ d) ⊎ (x ≡ d → ⊥) → (next xs c ≡ next xs d → next xs c < length xs → c ≡ d) → c ≡ d
    go (inl p) (inl q) _ = omega arith
    go (inl p) (inr nq) _ = absurd (omega (arith, next_other x xs d nq, next_at x xs c p))
    go (inr np) (inl q) _ = absurd (omega (arith, next_other x xs c np, next_at x xs d q))
    go (inr np) (inr nq) ih = ih (omega (arith, next_other x xs c np, next_other x xs d nq)) (omega (arith, next_other x xs c np))

-- the page stands there
pub next_found : (xs : List ℕ) (c : ℕ) → next xs c < length xs → get_or xs (next xs c) 0 ≡ c
next_found [] c l = absurd (omega arith)
next_found (x ∷ xs) c l = go (cases_eq x c) (next_found xs c)
  where
    go : (x ≡ c) ⊎ (x ≡ c → ⊥) → (next xs c < length xs → get_or xs (next xs c) 0 ≡ c) → get_or (x ∷ xs) (next (x ∷ xs) c) 0 ≡ c
    go (inl e) _ = rw (next_at x xs c e) e
    go (inr ne) r = rw (next_other x xs c ne) (r (omega (arith, next_other x xs c ne)))

-- and nowhere before
pub next_first : (xs : List ℕ) (c j : ℕ) → j < next xs c → get_or xs j 0 ≡ c → ⊥
unfolding next
next_first [] c j l e = omega arith
next_first (x ∷ xs) c zero l e = omega (arith, next_at x xs c e)
next_first (x ∷ xs) c (suc j) l e = go (cases_eq x c) (next_first xs c j)
  where
    go : (x ≡ c) ⊎ (x ≡ c → ⊥) → (j < next xs c → get_or xs j 0 ≡ c → ⊥) → ⊥
    go (inl q) _ = omega (arith, next_at x xs c q)
    go (inr ne) r = r (omega (arith, next_other x xs c ne)) e

pub latest_le : (s : List ℕ) (t c : ℕ) → latest s t c ≤ t
unfolding latest
latest_le s zero c = omega arith
latest_le s (suc t) c = let r = latest_le s t c in grind arith

pub latest_at : (s : List ℕ) (t c : ℕ) → get_or s t 0 ≡ c → latest s (suc t) c ≡ suc t
unfolding latest
latest_at s t c e = rw (eq-eqb (get_or s t 0) c e)

pub latest_other : (s : List ℕ) (t c : ℕ) → (get_or s t 0 ≡ c → ⊥) → latest s (suc t) c ≡ latest s t c
unfolding latest
latest_other s t c ne = rw (ne_eqb (get_or s t 0) c ne)

-- two pages with one latest reference are one page
pub latest_same : (s : List ℕ) (t c d : ℕ) → 1 ≤ latest s t c → latest s t c ≡ latest s t d → c ≡ d
unfolding latest
latest_same s zero c d some e = absurd (omega arith)
latest_same s (suc t) c d some e = go (cases_eq (get_or s t 0) c) (cases_eq (get_or s t 0) d) (latest_same s t c d)
  where
    go : (get_or s t 0 ≡ c) ⊎ (get_or s t 0 ≡ c → ⊥) → (get_or s t 0 ≡ d) ⊎ (get_or s t 0 ≡ d → ⊥) →
        (1 ≤ latest s t c → latest s t c ≡ latest s t d → c ≡ d) → c ≡ d
    go (inl p) (inl q) _ = omega arith
    go (inl p) (inr nq) _ = absurd (omega (arith, latest_at s t c p, latest_other s t d nq, latest_le s t d))
    go (inr np) (inl q) _ = absurd (omega (arith, latest_other s t c np, latest_at s t d q, latest_le s t c))
    go (inr np) (inr nq) ih = ih (omega (arith, latest_other s t c np)) (omega (arith, latest_other s t c np, latest_other s t d nq))
