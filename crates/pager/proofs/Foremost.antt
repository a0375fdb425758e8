-- The first pages of DPMIN's order, as they are collected and filled up. Assumes nothing.
use Rattle.std.proofs.Common.{◌≡◌, ℕ, ◌+◌, ◌<◌, ◌≤◌, Bool, true, false, ◌&&◌, ◌||◌, eqb, ltb, ◌⊎◌, List, length, get_or, sym, ap, ◌∙◌, inl, inr, arith}
use mathlib.Core.Path.{fun_ext}
use Rattle.std.proofs.lemmas.Bool.Decides.{nat_tests}
use Rattle.std.proofs.lemmas.Bool.{ne_eqb, lt-ltb, le-ltb, ltb-true, cases_eq, cases_Bool, cases_lt, and_parts, or_cases, both_ways}
use Rattle.paging.specs.Pages.{bit, codes, Pages, nothing, size, with_page}
use Rattle.paging.specs.Schedules.{next}
use Rattle.paging.specs.Policies.{pool, before, rank, foremost}
use Rattle.paging.proofs.Sums.{total_add, total_le, only_one}
use Rattle.paging.proofs.Next.{next_le, next_found, next_first}
use Rattle.pager.specs.Prepaging.{soon, filled}

-- the scan ahead
pub soon_none : (ys : List ℕ) → nothing ≡ soon ys 0
soon_none ys = fun_ext (λ c. sym (le-ltb (next ys c) 0 (omega arith)))

pub soon_more : (ys : List ℕ) (e : ℕ) → e < length ys → with_page (get_or ys e 0) (soon ys e) ≡ soon ys (e + 1)
soon_more ys e hi = fun_ext (λ c. go c (cases_lt (next ys c) e) (cases_lt e (next ys c)))
  where
    go : (c : ℕ) → (next ys c < e) ⊎ (e ≤ next ys c) → (e < next ys c) ⊎ (next ys c ≤ e) →
        (eqb (get_or ys e 0) c || ltb (next ys c) e) ≡ ltb (next ys c) (e + 1)
    go c (inl less) _ = grind (arith, nat_tests)
    go c (inr _) (inl more) = let ne : get_or ys e 0 ≡ c → ⊥ = λ q. next_first ys c e more q in grind (arith, nat_tests)
    go c (inr a) (inr b) =
        let i : next ys c ≡ e = omega arith in
        let same : get_or ys e 0 ≡ c = ap (λ (k : ℕ). get_or ys k 0) (sym i) ∙ next_found ys c (omega arith) in
        grind (arith, nat_tests)

-- the filling up
pub filled_none : (C M : Pages) → C ≡ filled C 0 M
filled_none C M = fun_ext (λ c. grind (arith, nat_tests))

pub filled_yes : (C M : Pages) (i : ℕ) → M i ≡ true → with_page i (filled C i M) ≡ filled C (i + 1) M
filled_yes C M i m = fun_ext (λ c. go c (cases_eq i c))
  where
    go : (c : ℕ) → (i ≡ c) ⊎ (i ≡ c → ⊥) → (eqb i c || (C c || (ltb c i && M c))) ≡ (C c || (ltb c (i + 1) && M c))
    go c (inl e) = let mc : M c ≡ true = rw e at m in rw mc (grind (arith, nat_tests))
    go c (inr ne) = grind (arith, nat_tests)

pub filled_no : (C M : Pages) (i : ℕ) → M i ≡ false → filled C i M ≡ filled C (i + 1) M
filled_no C M i m = fun_ext (λ c. go c (cases_eq i c))
  where
    go : (c : ℕ) → (i ≡ c) ⊎ (i ≡ c → ⊥) → (C c || (ltb c i && M c)) ≡ (C c || (ltb c (i + 1) && M c))
    go c (inl e) = let mc : M c ≡ false = rw e at m in rw mc (grind (arith, nat_tests))
    go c (inr ne) = grind (arith, nat_tests)

pub size_filled : (C : Pages) (i : ℕ) (M : Pages) → size C ≤ size (filled C i M)
size_filled C i M = total_le codes (λ c. bit (C c)) (λ c. bit (filled C i M c)) (λ c _. each (C c) (ltb c i && M c))
  where
    each : (a b : Bool) → bit a ≤ bit (a || b)
    each a b = grind arith

-- a set that has, with a page, all before it, and that is full or has all: it is the first of the order
module _ (f : ℕ) (k : ℕ → ℕ) (P D : Pages) (within : (c : ℕ) → D c ≡ true → P c ≡ true) (small : size D ≤ f)
    (closed : (c d : ℕ) → D c ≡ true → P d ≡ true → before k d c ≡ true → D d ≡ true) (low : (c : ℕ) → P c ≡ true → c < codes)
    (full : (f ≤ size D) ⊎ ((c : ℕ) → P c ≡ true → D c ≡ true)) where
  rank_in : (c : ℕ) → D c ≡ true → rank k P c < f
  rank_in c dc =
      omega (
        arith,
        only_one codes c true (low c (within c dc)),
        total_add codes (λ d. bit (P d && before k d c)) (λ d. bit (eqb c d && true)),
        total_le codes (λ d. bit (P d && before k d c) + bit (eqb c d && true)) (λ d. bit (D d)) (λ d _. each d (cases_eq c d) (cases_Bool (P d && before k d c))),
      )
    where
      each : (d : ℕ) → (c ≡ d) ⊎ (c ≡ d → ⊥) → ((P d && before k d c) ≡ true) ⊎ ((P d && before k d c) ≡ false) → bit (P d && before k d c) + bit (eqb c d && true) ≤ bit (D d)
      each d (inl e) _ = let dd : D d ≡ true = rw e at dc in rw (dd, e) (grind (arith, nat_tests))
      each d (inr ne) (inl b) =
          let p = and_parts (P d) (before k d c) b in
          rw (b, ne_eqb c d ne, closed c d dc p.0 p.1) (omega arith)
      each d (inr ne) (inr b) = rw (b, ne_eqb c d ne) (omega arith)

  rank_out : (c : ℕ) → D c ≡ false → P c ≡ true → f ≤ rank k P c
  rank_out c dc pc = go full
    where
      each : (d : ℕ) → (c ≡ d) ⊎ (c ≡ d → ⊥) → (D d ≡ true) ⊎ (D d ≡ false) → (before k c d ≡ true) ⊎ (before k c d ≡ false) → bit (D d) ≤ bit (P d && before k d c)
      each d _ (inr no-d) _ = rw no-d (omega arith)
      each d (inl e) (inl yes-d) _ = absurd (both_ways (D c) dc (rw e yes-d))
      each d (inr ne) (inl yes-d) (inl b) = absurd (both_ways (D c) dc (closed d c yes-d pc b))
      each d (inr ne) (inl yes-d) (inr b) = rw (yes-d, within d yes-d) (grind (arith, nat_tests))

      go : (f ≤ size D) ⊎ ((c : ℕ) → P c ≡ true → D c ≡ true) → f ≤ rank k P c
      go (inl q) =
          omega (arith, total_le codes (λ d. bit (D d)) (λ d. bit (P d && before k d c)) (λ d _. each d (cases_eq c d) (cases_Bool (D d)) (cases_Bool (before k c d))))
      go (inr all) = absurd (both_ways (D c) dc (all c pc))

  first_is : (c : ℕ) → D c ≡ (P c && ltb (rank k P c) f)
  first_is c = go (cases_Bool (D c)) (cases_Bool (P c))
    where
      go : (D c ≡ true) ⊎ (D c ≡ false) → (P c ≡ true) ⊎ (P c ≡ false) → D c ≡ (P c && ltb (rank k P c) f)
      go (inl dc) _ = rw (dc, within c dc, lt-ltb (rank k P c) f (rank_in c dc))
      go (inr dc) (inl pc) = rw (dc, pc, le-ltb (rank k P c) f (rank_out c dc pc))
      go (inr dc) (inr pc) = rw (dc, pc)

-- what is collected and filled is the first of the order
module _ (f : ℕ) (ys : List ℕ) (e i : ℕ) (M D : Pages) (coded : (j : ℕ) → get_or ys j 0 < codes) (short : (c : ℕ) → M c ≡ true → c < codes)
    (is : D ≡ filled (soon ys e) i M) (high : e ≤ length ys) (small : size D ≤ f)
    (late : ((i ≡ 0) × (f ≤ size D)) ⊎ (e ≡ length ys)) (full : (f ≤ size D) ⊎ (256 ≤ i)) where
  at : (c : ℕ) → D c ≡ (ltb (next ys c) e || (ltb c i && M c))
  at c = ap (λ (N : Pages). N c) is

  inside : (c : ℕ) → D c ≡ true → pool ys M c ≡ true
  inside c d = let a = at c in grind (arith, nat_tests)

  closed_at : (c d : ℕ) → D c ≡ true → pool ys M d ≡ true → before (next ys) d c ≡ true → D d ≡ true
  closed_at c d dc pd b = go late (cases_lt (next ys d) e)
    where
      go : ((i ≡ 0) × (f ≤ size D)) ⊎ (e ≡ length ys) → (next ys d < e) ⊎ (e ≤ next ys d) → D d ≡ true
      go _ (inl near) = rw (at d, lt-ltb (next ys d) e near)
      go (inl z) (inr far) = let a = at c in absurd (grind (arith, nat_tests))
      go (inr z) (inr far) =
          let a = at c in
          let n = next_le ys c in
          let m : M d ≡ true = grind (arith, nat_tests) in
          let q : d < i = grind (arith, nat_tests) in
          rw (at d, m) (grind (arith, nat_tests))

  low_at : (c : ℕ) → pool ys M c ≡ true → c < codes
  low_at c p = go (or_cases (M c) (ltb (next ys c) (length ys)) p)
    where
      go : (M c ≡ true) ⊎ (ltb (next ys c) (length ys) ≡ true) → c < codes
      go (inl m) = short c m
      go (inr b) = omega (arith, next_found ys c (ltb-true (next ys c) (length ys) b), coded (next ys c))

  full_at : (f ≤ size D) ⊎ ((c : ℕ) → pool ys M c ≡ true → D c ≡ true)
  full_at = go full late
    where
      all : 256 ≤ i → e ≡ length ys → (c : ℕ) → pool ys M c ≡ true → D c ≡ true
      all w z c p = let q = low_at c p in rw (at c) (grind (arith, nat_tests))

      go : (f ≤ size D) ⊎ (256 ≤ i) → ((i ≡ 0) × (f ≤ size D)) ⊎ (e ≡ length ys) → (f ≤ size D) ⊎ ((c : ℕ) → pool ys M c ≡ true → D c ≡ true)
      go (inl q) _ = inl q
      go (inr w) (inl z) = inl z.1
      go (inr w) (inr z) = inr (all w z)

  fault_is : D ≡ foremost f ys M
  fault_is = fun_ext (first_is f (next ys) (pool ys M) D inside small closed_at low_at full_at)

-- the same, from what the code's functions ensure
pub fault_done : (f : ℕ) (ys : List ℕ) (e i : ℕ) (M C D : Pages) → ((j : ℕ) → get_or ys j 0 < codes) → ((c : ℕ) → M c ≡ true → c < codes) →
    C ≡ soon ys e → e ≤ length ys → (e < length ys → f ≤ size C) → D ≡ filled C i M → size D ≤ f → (i < 256 → f ≤ size D) → (f ≤ size C → i ≡ 0) →
    D ≡ foremost f ys M
fault_done f ys e i M C D coded short ec high stop ed small full none =
    fault_is f ys e i M D coded short (ed ∙ ap (λ (N : Pages). filled N i M) ec) high small (late (cases_lt e (length ys))) (end (cases_lt i 256))
  where
    late : (e < length ys) ⊎ (length ys ≤ e) → ((i ≡ 0) × (f ≤ size D)) ⊎ (e ≡ length ys)
    late (inl q) = let z = none (stop q) in inl (z, full (omega arith))
    late (inr q) = inr (omega arith)

    end : (i < 256) ⊎ (256 ≤ i) → (f ≤ size D) ⊎ (256 ≤ i)
    end (inl q) = inl (full q)
    end (inr q) = inr q
