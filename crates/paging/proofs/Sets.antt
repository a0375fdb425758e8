-- Sets of pages: their sizes, and sets as rows of flags. Assumes nothing.
use Rattle.std.proofs.Common.{◌≡◌, ℕ, zero, suc, ◌+◌, ◌<◌, ◌≤◌, Bool, true, false, not, ◌&&◌, ◌||◌, eqb, ◌⊎◌, List, length, get_or, set, replicate, sym, refl, ap, inl, inr, arith}
use mathlib.Core.Path.{fun_ext}
use Rattle.std.proofs.lemmas.Bool.Decides.{nat_tests}
use Rattle.std.proofs.lemmas.List.{get_or-set_same, get_or-set_other, get_or_past, get_or-replicate}
use Rattle.std.proofs.lemmas.Bool.{eq-eqb, ne_eqb, cases_eq, cases_Bool, cases_lt, both_ways}
use Rattle.paging.specs.Pages.{bit, total, codes, Pages, nothing, size, with_page, without}
use Rattle.paging.specs.Flags.{flagged}
use Rattle.paging.specs.Schedules.{pulled}
use Rattle.paging.proofs.Sums.{total_zero, total_le, total_add, only_one, only_most}

pub total_same : (n : ℕ) (g h : ℕ → ℕ) → ((c : ℕ) → c < n → g c ≡ h c) → total n g ≡ total n h
total_same n g h e = omega (arith, total_le n g h (λ c l. omega (arith, e c l)), total_le n h g (λ c l. omega (arith, e c l)))

pub bit_most : (b : Bool) → bit b ≤ 1
bit_most true = omega arith
bit_most false = omega arith

pub total_most : (n : ℕ) (M : Pages) → total n (λ c. bit (M c)) ≤ n
unfolding total
total_most zero M = omega arith
total_most (suc n) M = let r = total_most n M in let q = bit_most (M n) in omega arith

pub size_most : (M : Pages) → size M ≤ 256
size_most M = total_most codes M

pub size_nothing : size nothing ≡ 0
size_nothing = total_zero codes (λ c. 0) (λ c _. refl)

-- a set that holds one page more, and one page less
pub size_in : (x : ℕ) (M : Pages) → x < codes → M x ≡ false → size (with_page x M) ≡ size M + 1
size_in x M l h =
    omega (
      arith,
      only_one codes x true l,
      total_add codes (λ c. bit (M c)) (λ c. bit (eqb x c && true)),
      total_same codes (λ c. bit (eqb x c || M c)) (λ c. bit (M c) + bit (eqb x c && true)) (λ c _. each c (cases_eq x c)),
    )
  where
    each : (c : ℕ) → (x ≡ c) ⊎ (x ≡ c → ⊥) → bit (eqb x c || M c) ≡ bit (M c) + bit (eqb x c && true)
    each c (inl e) = rw (← e, eq-eqb x x refl, h)
    each c (inr ne) = rw (ne_eqb x c ne) (grind (arith, nat_tests))

pub size_out : (z : ℕ) (M : Pages) → z < codes → M z ≡ true → size (without z M) + 1 ≡ size M
size_out z M l h =
    omega (
      arith,
      only_one codes z true l,
      total_add codes (λ c. bit (without z M c)) (λ c. bit (eqb z c && true)),
      total_same codes (λ c. bit (without z M c) + bit (eqb z c && true)) (λ c. bit (M c)) (λ c _. each c (cases_eq z c)),
    )
  where
    each : (c : ℕ) → (z ≡ c) ⊎ (z ≡ c → ⊥) → bit (not (eqb z c) && M c) + bit (eqb z c && true) ≡ bit (M c)
    each c (inl e) = rw (← e, eq-eqb z z refl, h)
    each c (inr ne) = rw (ne_eqb z c ne) (grind (arith, nat_tests))

-- putting a page in that is there changes nothing
pub with_same : (x : ℕ) (M : Pages) → M x ≡ true → with_page x M ≡ M
with_same x M h = fun_ext (λ c. each c (cases_eq x c))
  where
    each : (c : ℕ) → (x ≡ c) ⊎ (x ≡ c → ⊥) → (eqb x c || M c) ≡ M c
    each c (inl e) = rw (← e, h) (grind (arith, nat_tests))
    each c (inr ne) = rw (ne_eqb x c ne)

pub without_same : (z : ℕ) (M : Pages) → M z ≡ false → without z M ≡ M
without_same z M h = fun_ext (λ c. each c (cases_eq z c))
  where
    each : (c : ℕ) → (z ≡ c) ⊎ (z ≡ c → ⊥) → (not (eqb z c) && M c) ≡ M c
    each c (inl e) = rw (← e, h) (grind (arith, nat_tests))
    each c (inr ne) = rw (ne_eqb z c ne)

pub size_with : (x : ℕ) (M : Pages) → size (with_page x M) ≤ size M + 1
size_with x M =
    omega (
      arith,
      only_most codes x true,
      total_add codes (λ c. bit (M c)) (λ c. bit (eqb x c && true)),
      total_le codes (λ c. bit (eqb x c || M c)) (λ c. bit (M c) + bit (eqb x c && true)) (λ c _. each (eqb x c) (M c)),
    )
  where
    each : (a b : Bool) → bit (a || b) ≤ bit b + bit (a && true)
    each a b = grind arith

pub size_without : (z : ℕ) (M : Pages) → size (without z M) ≤ size M
size_without z M = total_le codes (λ c. bit (not (eqb z c) && M c)) (λ c. bit (M c)) (λ c _. each (eqb z c) (M c))
  where
    each : (a b : Bool) → bit (not a && b) ≤ bit b
    each a b = grind arith

-- how many pages come
pub none_pulled : (M : Pages) → pulled M M ≡ 0
none_pulled M = total_zero codes (λ c. bit (M c && not (M c))) (λ c _. each (M c))
  where
    each : (b : Bool) → bit (b && not b) ≡ 0
    each true = refl
    each false = refl

pub one_pulled : (x : ℕ) (M N : Pages) → x < codes → M x ≡ false → ((c : ℕ) → N c ≡ true → M c ≡ true) → pulled M (with_page x N) ≡ 1
one_pulled x M N l out less =
    omega (
      arith,
      only_one codes x true l,
      total_same codes (λ c. bit ((eqb x c || N c) && not (M c))) (λ c. bit (eqb x c && true)) (λ c _. each c (cases_eq x c) (cases_Bool (N c))),
    )
  where
    each : (c : ℕ) → (x ≡ c) ⊎ (x ≡ c → ⊥) → (N c ≡ true) ⊎ (N c ≡ false) → bit ((eqb x c || N c) && not (M c)) ≡ bit (eqb x c && true)
    each c (inl e) _ = rw (← e, eq-eqb x x refl, out)
    each c (inr ne) (inl n) = rw (ne_eqb x c ne, n, less c n)
    each c (inr ne) (inr n) = rw (ne_eqb x c ne, n)

-- a set as a row of flags
pub flagged_none : (n : ℕ) → flagged (replicate n false) ≡ nothing
flagged_none n = fun_ext (λ c. each c (cases_lt c n))
  where
    each : (c : ℕ) → (c < n) ⊎ (n ≤ c) → get_or (replicate n false) c false ≡ false
    each c (inl l) = get_or-replicate n c false false l
    each c (inr g) = get_or_past (replicate n false) c false (simp lib.ListN.length-replicate (omega arith))

pub flagged_in : (h : List Bool) (x : ℕ) → x < length h → flagged (set h x true) ≡ with_page x (flagged h)
flagged_in h x l = fun_ext (λ c. go c (cases_eq x c))
  where
    go : (c : ℕ) → (x ≡ c) ⊎ (x ≡ c → ⊥) → get_or (set h x true) c false ≡ (eqb x c || get_or h c false)
    go c (inl e) = rw (eq-eqb x c e, ← e, get_or-set_same h x true false l)
    go c (inr ne) = rw (ne_eqb x c ne, get_or-set_other h x c true false (λ q. ne (sym q)))

pub flagged_out : (h : List Bool) (z : ℕ) → z < length h → flagged (set h z false) ≡ without z (flagged h)
flagged_out h z l = fun_ext (λ c. go c (cases_eq z c))
  where
    go : (c : ℕ) → (z ≡ c) ⊎ (z ≡ c → ⊥) → get_or (set h z false) c false ≡ (not (eqb z c) && get_or h c false)
    go c (inl e) = rw (eq-eqb z c e, ← e, get_or-set_same h z false false l)
    go c (inr ne) = rw (ne_eqb z c ne, get_or-set_other h z c false false (λ q. ne (sym q)))

pub flagged_low : (h : List Bool) → length h ≡ 256 → (c : ℕ) → flagged h c ≡ true → c < codes
flagged_low h wide c m = go (cases_lt c 256)
  where
    go : (c < 256) ⊎ (256 ≤ c) → c < codes
    go (inl l) = l
    go (inr g) = absurd (both_ways (flagged h c) (get_or_past h c false (omega arith)) m)

pub count_in : (h : List Bool) (x n : ℕ) → length h ≡ 256 → x < 256 → flagged h x ≡ false → n ≡ size (flagged h) → n + 1 ≡ size (flagged (set h x true))
count_in h x n wide l out e = omega (arith, ap size (flagged_in h x (omega arith)), size_in x (flagged h) l out)

pub count_out : (h : List Bool) (z n : ℕ) → length h ≡ 256 → z < 256 → flagged h z ≡ true → n ≡ size (flagged h) → n ≡ size (flagged (set h z false)) + 1
count_out h z n wide l has e = omega (arith, ap size (flagged_out h z (omega arith)), size_out z (flagged h) l has)
