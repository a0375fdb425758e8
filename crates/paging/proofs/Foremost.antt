-- What DPMIN holds after a fault, and its laws as a pager. Assumes nothing.
use Rattle.std.proofs.Common.{◌≡◌, ℕ, suc, ◌+◌, ◌<◌, ◌≤◌, true, false, ◌&&◌, eqb, ltb, ◌⊎◌, List, [], ◌∷◌, length, drop, sym, refl, ap, ◌∙◌, subst, inl, inr, arith}
use Rattle.std.proofs.lemmas.Bool.Decides.{nat_tests}
use Rattle.std.proofs.lemmas.Bool.{eq-eqb, ltb-true, cases_eq, cases_Bool, cases_lt, and_parts, both_ways}
use Rattle.paging.specs.Pages.{bit, codes, Pages, size}
use Rattle.paging.specs.Schedules.{next}
use Rattle.paging.specs.Models.{Serve, held_on}
use Rattle.paging.specs.Rankings.{hindmost, Order}
use Rattle.paging.specs.Policies.{pool, before, rank, foremost, dpmin_step, itself, dpmin}
use Rattle.paging.specs.Theorems.{DpminKeeps}
use Rattle.paging.proofs.Sums.{total_le, total_add, total_zero, only_most}
use Rattle.paging.proofs.Next.{next_here, next_other}
use Rattle.paging.proofs.Hindmost.{hindmost_held, hindmost_behind}
use Rattle.paging.proofs.Models.{states_more, held_stepping, stepping_keeps}

pub before_order : (k : ℕ → ℕ) → Order (before k)
before_order k =
    record {
      never = λ a _. grind (arith, nat_tests);
      one = λ a b _ _ ne. grind (arith, nat_tests);
      chain = λ a b c _ _ _ p q. grind (arith, nat_tests);
    }

-- the page at hand is the first of all
pub foremost_here : (f x : ℕ) (xs : List ℕ) (M : Pages) → 1 ≤ f → foremost f (x ∷ xs) M x ≡ true
foremost_here f x xs M some =
    let r : rank (next (x ∷ xs)) (pool (x ∷ xs) M) x ≡ 0 =
    total_zero codes (λ d. bit (pool (x ∷ xs) M d && before (next (x ∷ xs)) d x)) (λ d _. each d (cases_eq x d)) in
    rw (r, next_here) (grind (arith, nat_tests))
  where
    each : (d : ℕ) → (x ≡ d) ⊎ (x ≡ d → ⊥) → bit (pool (x ∷ xs) M d && before (next (x ∷ xs)) d x) ≡ 0
    each d (inl e) = rw (← e, next_here) (grind (arith, nat_tests))
    each d (inr nd) = rw (next_here, next_other x xs d nd) (grind (arith, nat_tests))

-- the first f pages of the order are at most f
pub foremost_fits : (f : ℕ) (ys : List ℕ) (M : Pages) → size (foremost f ys M) ≤ f
foremost_fits f ys M = go (cases_lt 0 (size (foremost f ys M)))
  where
    z : ℕ
    z = hindmost (before (next ys)) codes (foremost f ys M)

    each : (d : ℕ) → d < codes → (z ≡ d) ⊎ (z ≡ d → ⊥) → (foremost f ys M d ≡ true) ⊎ (foremost f ys M d ≡ false) →
        bit (foremost f ys M d) ≤ bit (pool ys M d && before (next ys) d z) + bit (eqb z d && true)
    each d l _ (inr no-d) = rw no-d (omega arith)
    each d l (inl e) (inl s) = rw (s, eq-eqb z d e) (omega arith)
    each d l (inr ne) (inl s) =
        let far : before (next ys) d z ≡ true =
        hindmost_behind (before (next ys)) (before_order (next ys)) codes (foremost f ys M) d (omega arith) l s (λ q. ne (sym q)) in
        let p = and_parts (pool ys M d) (ltb (rank (next ys) (pool ys M) d) f) s in
        rw (s, p.0, far) (omega arith)

    go : (0 < size (foremost f ys M)) ⊎ (size (foremost f ys M) ≤ 0) → size (foremost f ys M) ≤ f
    go (inr none) = omega arith
    go (inl some) =
        let s : foremost f ys M z ≡ true = hindmost_held (before (next ys)) (foremost f ys M) some in
        omega (
          arith,
          ltb-true (rank (next ys) (pool ys M) z) f (and_parts (pool ys M z) (ltb (rank (next ys) (pool ys M) z) f) s).1,
          only_most codes z true,
          total_add codes (λ d. bit (pool ys M d && before (next ys) d z)) (λ d. bit (eqb z d && true)),
          total_le codes (λ d. bit (foremost f ys M d)) (λ d. bit (pool ys M d && before (next ys) d z) + bit (eqb z d && true))
              (λ d l. each d l (cases_eq z d) (cases_Bool (foremost f ys M d))),
        )

pub dpmin_hit : (f x : ℕ) (xs : List ℕ) (M : Pages) → M x ≡ true → dpmin_step f (x ∷ xs) M ≡ M
dpmin_hit f x xs M m = rw m

pub dpmin_fault : (f x : ℕ) (xs : List ℕ) (M : Pages) → M x ≡ false → dpmin_step f (x ∷ xs) M ≡ foremost f (x ∷ xs) M
dpmin_fault f x xs M m = rw m

-- one place more
pub dpmin_more : (f : ℕ) (B : Pages) (s : List ℕ) (t : ℕ) → t < length s →
    held_on (dpmin f B) s (suc t) ≡ dpmin_step f (drop t s) (held_on (dpmin f B) s t)
dpmin_more f B s t l =
    held_stepping (dpmin_step f) itself B s (suc t) ∙ states_more (dpmin_step f) B s t l ∙
    ap (dpmin_step f (drop t s)) (sym (held_stepping (dpmin_step f) itself B s t))

dpmin_fits : (f : ℕ) (r : List ℕ) (M : Pages) → size M ≤ f → size (dpmin_step f r M) ≤ f
dpmin_fits f [] M small = small
dpmin_fits f (x ∷ xs) M small = go (cases_Bool (M x))
  where
    go : (M x ≡ true) ⊎ (M x ≡ false) → size (dpmin_step f (x ∷ xs) M) ≤ f
    go (inl m) = subst (λ (N : Pages). size N ≤ f) (sym (dpmin_hit f x xs M m)) small
    go (inr m) = subst (λ (N : Pages). size N ≤ f) (sym (dpmin_fault f x xs M m)) (foremost_fits f (x ∷ xs) M)

dpmin_serve : (f x : ℕ) (xs : List ℕ) (M : Pages) → 1 ≤ f → size M ≤ f → Serve f x M (dpmin_step f (x ∷ xs) M)
dpmin_serve f x xs M some small = go (cases_Bool (M x))
  where
    go : (M x ≡ true) ⊎ (M x ≡ false) → Serve f x M (dpmin_step f (x ∷ xs) M)
    go (inl m) =
        subst (λ (N : Pages). Serve f x M N) (sym (dpmin_hit f x xs M m))
        (record { first = m; within = small; only = λ _ c _ e. e })
    go (inr m) =
        subst (λ (N : Pages). Serve f x M N) (sym (dpmin_fault f x xs M m))
        (record {
          first = foremost_here f x xs M some;
          within = foremost_fits f (x ∷ xs) M;
          only = λ h c _ _. absurd (both_ways (M x) m h);
        })

pub dpmin_keeps : DpminKeeps
dpmin_keeps f B some most small =
    stepping_keeps (dpmin_step f) itself (λ M. size M ≤ f) (λ M r. dpmin_fits f r M) f some most (λ M. refl) (λ M i. i)
    (λ M x xs _ i. dpmin_serve f x xs M some i) B small
