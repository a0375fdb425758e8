-- DPMIN faults least among the schedules that pull only at faults. Assumes nothing.
use Rattle.std.proofs.Common.{◌≡◌, ℕ, zero, suc, ◌+◌, ◌<◌, ◌≤◌, true, false, not, ◌&&◌, ◌||◌, eqb, ltb, ◌⊎◌, List, ◌∷◌, length, get_or, drop, sym, ap, ◌∙◌, subst, inl, inr, arith, drop-cons}
use Rattle.std.proofs.lemmas.Bool.Decides.{nat_tests}
use Rattle.std.proofs.lemmas.Bool.{eq-eqb, ne_eqb, ltb-false, cases_eq, cases_Bool, cases_lt, both_ways}
use Rattle.paging.specs.Pages.{bit, total, codes, Pages, size}
use Rattle.paging.specs.Schedules.{Coded, next, Holding, ScheduleTo, PrepagesTo, faults}
use Rattle.paging.specs.Models.{held_on}
use Rattle.paging.specs.Policies.{pool, before, rank, foremost, dpmin_step, dpmin}
use Rattle.paging.specs.Theorems.{DpminFaultsLeast, DpminFaultsLatest}
use Rattle.paging.proofs.Sums.{total_le, total_add, total_none, total_suc, total_longer, only_one, member}
use Rattle.paging.proofs.Next.{next_here, next_other, next_same}
use Rattle.paging.proofs.Foremost.{foremost_here, dpmin_hit, dpmin_fault, dpmin_more}

-- where the two schedules have faulted equally often: some set W of at most f pages holds all that H holds, and a page of W that M does
-- not hold has f others in W, or before it in what is left of the string
record Even (f : ℕ) (xs : List ℕ) (M H : Pages) : Type 0 where
  W : Pages
  small : size W ≤ f
  holds : (c : ℕ) → c < codes → H c ≡ true → W c ≡ true
  crowd : (c : ℕ) → c < codes → M c ≡ false → W c ≡ true → next xs c < length xs →
      f ≤ total codes (λ d. bit (not (eqb c d) && (W d || ltb (next xs d) (next xs c))))

-- both hit
even_on : (f x : ℕ) (xs : List ℕ) (M H H' : Pages) → x < codes → M x ≡ true → H x ≡ true → ((c : ℕ) → c < codes → H' c ≡ true → H c ≡ true) →
    Even f (x ∷ xs) M H → Even f xs M H'
even_on f x xs M H H' l m h sub ev =
    record {
      W = ev.W;
      small = ev.small;
      holds = λ c lc e. ev.holds c lc (sub c lc e);
      crowd = λ c lc mc wc ref. crowded c lc mc wc ref (λ e. both_ways (M c) mc (rw e at m));
    }
  where
    each : (c d : ℕ) → (x ≡ c → ⊥) → (x ≡ d) ⊎ (x ≡ d → ⊥) →
        bit (not (eqb c d) && (ev.W d || ltb (next (x ∷ xs) d) (next (x ∷ xs) c))) ≤ bit (not (eqb c d) && (ev.W d || ltb (next xs d) (next xs c)))
    each c d ne (inl e) = let w : ev.W d ≡ true = rw e at (ev.holds x l h) in rw w (omega arith)
    each c d ne (inr nd) = rw (next_other x xs c ne, next_other x xs d nd) (grind (arith, nat_tests))

    crowded : (c : ℕ) → c < codes → M c ≡ false → ev.W c ≡ true → next xs c < length xs → (x ≡ c → ⊥) →
        f ≤ total codes (λ d. bit (not (eqb c d) && (ev.W d || ltb (next xs d) (next xs c))))
    crowded c lc mc wc ref ne =
        omega (
          arith,
          ev.crowd c lc mc wc (omega (arith, next_other x xs c ne)),
          total_le codes (λ d. bit (not (eqb c d) && (ev.W d || ltb (next (x ∷ xs) d) (next (x ∷ xs) c))))
              (λ d. bit (not (eqb c d) && (ev.W d || ltb (next xs d) (next xs c)))) (λ d _. each c d ne (cases_eq x d)),
        )

-- M faults, so H does
even_faults : (f x : ℕ) (xs : List ℕ) (M H : Pages) → x < codes → M x ≡ false → H x ≡ true → Even f (x ∷ xs) M H → ⊥
even_faults f x xs M H l m h ev =
    omega (
      arith,
      ev.small,
      only_one codes x true l,
      ev.crowd x l m (ev.holds x l h) (omega (arith, next_here x xs)),
      total_add codes (λ d. bit (not (eqb x d) && (ev.W d || ltb (next (x ∷ xs) d) (next (x ∷ xs) x)))) (λ d. bit (eqb x d && true)),
      total_le codes (λ d. bit (not (eqb x d) && (ev.W d || ltb (next (x ∷ xs) d) (next (x ∷ xs) x))) + bit (eqb x d && true)) (λ d. bit (ev.W d))
          (λ d _. each d (cases_eq x d)),
    )
  where
    each : (d : ℕ) → (x ≡ d) ⊎ (x ≡ d → ⊥) →
        bit (not (eqb x d) && (ev.W d || ltb (next (x ∷ xs) d) (next (x ∷ xs) x))) + bit (eqb x d && true) ≤ bit (ev.W d)
    each d (inl e) = rw (eq-eqb x d e) (let w : ev.W d ≡ true = rw e at (ev.holds x l h) in rw w (omega arith))
    each d (inr nd) = rw (ne_eqb x d nd, next_here) (grind (arith, nat_tests))

-- after a fault of DPMIN, W is what H holds
even_new : (f x : ℕ) (xs : List ℕ) (M H' : Pages) → x < codes → H' x ≡ true → size H' ≤ f → Even f xs (foremost f (x ∷ xs) M) H'
even_new f x xs M H' l has fits =
    record {
      W = H';
      small = fits;
      holds = λ c _ e. e;
      crowd = λ c lc mc wc ref. crowded c lc mc ref (λ e. both_ways (foremost f (x ∷ xs) M c) mc (subst (λ (y : ℕ). foremost f (x ∷ xs) M y ≡ true) e (foremost_here f x xs M (omega (arith, member codes x H' l has)))));
    }
  where
    each : (c d : ℕ) → (x ≡ c → ⊥) → next xs c < length xs → (x ≡ d) ⊎ (x ≡ d → ⊥) → (c ≡ d) ⊎ (c ≡ d → ⊥) →
        bit (pool (x ∷ xs) M d && before (next (x ∷ xs)) d c) ≤ bit (not (eqb c d) && (H' d || ltb (next xs d) (next xs c)))
    each c d ne ref _ (inl q) = rw q (grind (arith, nat_tests))
    each c d ne ref (inl e) (inr nq) = let w : H' d ≡ true = rw e at has in rw (w, ne_eqb c d nq) (grind (arith, nat_tests))
    each c d ne ref (inr nd) (inr nq) =
        let apart : next xs c ≡ next xs d → ⊥ = λ q. nq (next_same xs c d q ref) in
        rw (next_other x xs c ne, next_other x xs d nd, ne_eqb c d nq) (grind (arith, nat_tests))

    crowded : (c : ℕ) → c < codes → foremost f (x ∷ xs) M c ≡ false → next xs c < length xs → (x ≡ c → ⊥) →
        f ≤ total codes (λ d. bit (not (eqb c d) && (H' d || ltb (next xs d) (next xs c))))
    crowded c lc mc ref ne =
        let in-pool : pool (x ∷ xs) M c ≡ true = rw (next_other x xs c ne) (grind (arith, nat_tests)) in
        let far : f ≤ rank (next (x ∷ xs)) (pool (x ∷ xs) M) c = ltb-false (rank (next (x ∷ xs)) (pool (x ∷ xs) M) c) f (rw in-pool at mc) in
        omega (
          arith,
          total_le codes (λ d. bit (pool (x ∷ xs) M d && before (next (x ∷ xs)) d c)) (λ d. bit (not (eqb c d) && (H' d || ltb (next xs d) (next xs c))))
              (λ d _. each c d ne ref (cases_eq x d) (cases_eq c d)),
        )

-- the second has faulted more often, or the two are even
abbrev Level : ℕ → List ℕ → Pages → Pages → ℕ → ℕ → Type 0
Level f xs M H a b = (a ≤ b) × (b ≤ a → Even f xs M H)

level_step : (f x : ℕ) (xs ys : List ℕ) (M N H H' : Pages) (a b : ℕ) → ys ≡ x ∷ xs → N ≡ dpmin_step f ys M → x < codes → H' x ≡ true → size H' ≤ f →
    (H x ≡ true → (c : ℕ) → c < codes → H' c ≡ true → H c ≡ true) → Level f ys M H a b →
    Level f xs N H' (bit (not (M x)) + a) (bit (not (H x)) + b)
level_step f x xs ys M N H H' a b e n l has fits sub lev = go (cases_Bool (M x)) (cases_Bool (H x)) (cases_lt a b)
  where
    even : b ≤ a → Even f (x ∷ xs) M H
    even q = rw e at (lev.1 q)

    kept : M x ≡ true → N ≡ M
    kept m = n ∙ ap (λ (zs : List ℕ). dpmin_step f zs M) e ∙ dpmin_hit f x xs M m

    filled : M x ≡ false → N ≡ foremost f (x ∷ xs) M
    filled m = n ∙ ap (λ (zs : List ℕ). dpmin_step f zs M) e ∙ dpmin_fault f x xs M m

    go : (M x ≡ true) ⊎ (M x ≡ false) → (H x ≡ true) ⊎ (H x ≡ false) → (a < b) ⊎ (b ≤ a) →
        Level f xs N H' (bit (not (M x)) + a) (bit (not (H x)) + b)
    go (inl m) (inl h) _ = rw (kept m, m, h) (omega arith, λ q. even_on f x xs M H H' l m h (sub h) (even (omega arith)))
    go (inl m) (inr h) _ = rw (kept m, m, h) (omega arith, λ q. absurd (omega arith))
    go (inr m) (inl h) (inl less) = rw (filled m, m, h) (omega arith, λ q. even_new f x xs M H' l has fits)
    go (inr m) (inl h) (inr same) = absurd (even_faults f x xs M H l m h (even same))
    go (inr m) (inr h) _ = rw (filled m, m, h) (omega arith, λ q. even_new f x xs M H' l has fits)

module _ (f : ℕ) (B : Pages) (s : List ℕ) (H : Holding) (p : ℕ) (coded : Coded s) (short : p ≤ length s) (sched : ScheduleTo p f B s H)
    (pre : PrepagesTo p s H) where
  abbrev D : Holding
  D = held_on (dpmin f B) s

  level : (t : ℕ) → t ≤ p → Level f (drop t s) (D t) (H t) (faults s D t) (faults s H t)
  level zero l = (
    omega (arith, total_none (λ t. bit (not (D t (get_or s t 0)))), total_none (λ t. bit (not (H t (get_or s t 0))))),
    λ _. record {
      W = H 0;
      small = sched.fits 0 (omega arith);
      holds = λ c _ e. e;
      crowd = λ c lc mc wc ref. absurd (both_ways (B c) mc (sym (sched.starts c lc) ∙ wc));
    },
  )
  level (suc t) l =
      rw (total_suc t (λ t. bit (not (D t (get_or s t 0)))), total_suc t (λ t. bit (not (H t (get_or s t 0)))))
      (level_step f (get_or s t 0) (drop (suc t) s) (drop t s) (D t) (D (suc t)) (H t) (H (suc t)) (faults s D t) (faults s H t)
      (drop-cons s t 0 (omega arith)) (dpmin_more f B s t (omega arith)) (coded t (omega arith)) (sched.serves t l)
      (sched.fits (suc t) l) (pre t l) (level t (omega arith)))

pub dpmin_faults_least : DpminFaultsLeast
dpmin_faults_least f B s H p coded short sched pre = (level f B s H p coded short sched pre p (omega arith)).0

pub dpmin_faults_latest : DpminFaultsLatest
dpmin_faults_latest f B s H k t u coded sched pre d h = go (cases_lt t u)
  where
    go : (t < u) ⊎ (u ≤ t) → u ≤ t
    go (inr l) = l
    go (inl l) =
        let fault : bit (not (held_on (dpmin f B) s t (get_or s t 0))) ≡ 1 = rw d.fault in
        absurd (omega (
          arith,
          (level f B s H (length s) coded (omega arith) sched pre (suc t) (omega (arith, d.below))).0,
          total_suc t (λ i. bit (not (held_on (dpmin f B) s i (get_or s i 0)))),
          total_longer (suc t) u (λ i. bit (not (H i (get_or s i 0)))) l,
          d.earlier,
          h.earlier,
        ))
