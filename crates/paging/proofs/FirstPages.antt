-- DPMIN at a fault holds the first pages of its order, as many as there are frames, or all if there are fewer. Assumes nothing.
use Rattle.std.proofs.Common.{◌≡◌, ℕ, suc, ◌+◌, ◌<◌, ◌≤◌, min, Bool, true, false, not, ◌&&◌, eqb, ltb, ◌⊎◌, List, ◌∷◌, get_or, drop, sym, refl, ap, ◌∙◌, subst, inl, inr, arith, drop-cons}
use Rattle.std.proofs.lemmas.Bool.{eq-eqb, ne_eqb, lt-ltb, ltb-true, ltb-false, cases_eq, cases_Bool, cases_lt, and_parts, and_from, both_ways, not-true, not_from_false}
use Rattle.paging.specs.Pages.{bit, codes, Pages, size}
use Rattle.paging.specs.Schedules.{next}
use Rattle.paging.specs.Models.{held_on}
use Rattle.paging.specs.Rankings.{Order, hindmost}
use Rattle.paging.specs.Policies.{pool, before, rank, foremost, dpmin_step, dpmin}
use Rattle.paging.specs.Theorems.{FirstPages, DpminHoldsFirstPages}
use Rattle.paging.proofs.Sums.{total_le, total_add, only_one}
use Rattle.paging.proofs.Hindmost.{hindmost_below, hindmost_held, hindmost_behind}
use Rattle.paging.proofs.Foremost.{before_order, foremost_fits, dpmin_hit, dpmin_fault, dpmin_more}

-- an order looked at from its other end
turned : (o : ℕ → ℕ → Bool) → Order o → Order (λ a b. o b a)
turned o law =
    record {
      never = law.never;
      one = λ a b la lb ne. law.one b a lb la (λ e. ne (sym e));
      chain = λ a b c la lb lc p q. law.chain c b a lc lb la q p;
    }

-- the set N has the pages of P that fewer than f pages of P come before
module _ (f : ℕ) (k : ℕ → ℕ) (P N : Pages) (is : (c : ℕ) → N c ≡ (P c && ltb (rank k P c) f)) (small : size N ≤ f) where
  law : Order (before k)
  law = before_order k

  -- what comes before a page that comes before c comes before c
  rank_le : (c d : ℕ) → c < codes → d < codes → before k d c ≡ true → rank k P d ≤ rank k P c
  rank_le c d lc ld b = total_le codes (λ e. bit (P e && before k e d)) (λ e. bit (P e && before k e c)) (λ e le. each e le (cases_Bool (before k e d)))
    where
      each : (e : ℕ) → e < codes → (before k e d ≡ true) ⊎ (before k e d ≡ false) → bit (P e && before k e d) ≤ bit (P e && before k e c)
      each e le (inl h) = rw (h, law.chain e d c le ld lc h b) (omega arith)
      each e le (inr h) = rw h (none (P e))
        where
          none : (b : Bool) → bit (b && false) ≤ bit (b && before k e c)
          none true = omega arith
          none false = omega arith

  kept : (c : ℕ) → N c ≡ true → (P c ≡ true) × (rank k P c < f)
  kept c h = let p = and_parts (P c) (ltb (rank k P c) f) (sym (is c) ∙ h) in (p.0, ltb-true (rank k P c) f p.1)

  left : (d : ℕ) → P d ≡ true → N d ≡ false → f ≤ rank k P d
  left d p n = let q : (P d && ltb (rank k P d) f) ≡ false = sym (is d) ∙ n in ltb-false (rank k P d) f (rw p at q)

  first : (c d : ℕ) → c < codes → d < codes → N c ≡ true → P d ≡ true → N d ≡ false → before k c d ≡ true
  first c d lc ld nc pd nd = go (cases_eq c d) (cases_Bool (before k c d))
    where
      go : (c ≡ d) ⊎ (c ≡ d → ⊥) → (before k c d ≡ true) ⊎ (before k c d ≡ false) → before k c d ≡ true
      go (inl e) _ = absurd (both_ways (N d) nd (subst (λ (x : ℕ). N x ≡ true) e nc))
      go (inr ne) (inl b) = b
      go (inr ne) (inr b) =
          absurd (omega (arith, (kept c nc).1, left d pd nd, rank_le c d lc ld (law.one c d lc ld ne ∙ ap not b)))

  -- a page of the pool has less pages before it than the pool has
  rank_lt : (c : ℕ) → c < codes → P c ≡ true → rank k P c + 1 ≤ size P
  rank_lt c lc pc =
      omega (
        arith,
        only_one codes c true lc,
        total_add codes (λ e. bit (P e && before k e c)) (λ e. bit (eqb c e && true)),
        total_le codes (λ e. bit (P e && before k e c) + bit (eqb c e && true)) (λ e. bit (P e)) (λ e _. each e (cases_eq c e)),
      )
    where
      each : (e : ℕ) → (c ≡ e) ⊎ (c ≡ e → ⊥) → bit (P e && before k e c) + bit (eqb c e && true) ≤ bit (P e)
      each e (inl q) =
          let b : before k e c ≡ false = subst (λ (x : ℕ). before k x c ≡ false) q (law.never c lc) in
          let p : P e ≡ true = subst (λ (x : ℕ). P x ≡ true) q pc in
          rw (p, b, eq-eqb c e q) (omega arith)
      each e (inr n) = rw (ne_eqb c e n) (less (P e) (before k e c))
        where
          less : (a b : Bool) → bit (a && b) + 0 ≤ bit a
          less true true = omega arith
          less true false = omega arith
          less false b = omega arith

  few : size P ≤ f → size P ≤ size N
  few h = total_le codes (λ c. bit (P c)) (λ c. bit (N c)) (λ c l. each c l (cases_Bool (P c)))
    where
      each : (c : ℕ) → c < codes → (P c ≡ true) ⊎ (P c ≡ false) → bit (P c) ≤ bit (N c)
      each c l (inl p) =
          let n : N c ≡ true = is c ∙ and_from (P c) (ltb (rank k P c) f) p (lt-ltb (rank k P c) f (omega (arith, rank_lt c l p))) in
          rw (p, n) (omega arith)
      each c l (inr p) = rw p (omega arith)

  inside : size N ≤ size P
  inside = total_le codes (λ c. bit (N c)) (λ c. bit (P c)) (λ c _. rw (is c) (each (P c) (ltb (rank k P c) f)))
    where
      each : (a b : Bool) → bit (a && b) ≤ bit a
      each true true = omega arith
      each true false = omega arith
      each false b = omega arith

  -- the pages of the pool that are left out
  abbrev R : Pages
  R c = P c && not (N c)

  parts : size P ≤ size N + size R
  parts =
      omega (
        arith,
        total_add codes (λ c. bit (N c)) (λ c. bit (R c)),
        total_le codes (λ c. bit (P c)) (λ c. bit (N c) + bit (R c)) (λ c _. each (P c) (N c)),
      )
    where
      each : (p n : Bool) → bit p ≤ bit n + bit (p && not n)
      each true true = omega arith
      each true false = omega arith
      each false n = omega arith

  abbrev z : ℕ
  z = hindmost (λ a b. before k b a) codes R

  z_low : z < codes
  z_low = hindmost_below (λ a b. before k b a) codes R (omega arith)

  -- the nearest page that is left out has all that is held before it
  full : 1 ≤ size R → f ≤ size N
  full some =
      let r = and_parts (P z) (not (N z)) (hindmost_held (λ a b. before k b a) R some) in
      omega (
        arith,
        left z r.0 (not-true (N z) r.1),
        total_le codes (λ e. bit (P e && before k e z)) (λ e. bit (N e)) (λ e le. each e le (cases_Bool (P e)) (cases_Bool (before k e z)) (cases_Bool (N e))),
      )
    where
      each : (e : ℕ) → e < codes → (P e ≡ true) ⊎ (P e ≡ false) → (before k e z ≡ true) ⊎ (before k e z ≡ false) → (N e ≡ true) ⊎ (N e ≡ false) →
          bit (P e && before k e z) ≤ bit (N e)
      each e le (inr p) _ _ = rw p (omega arith)
      each e le (inl p) (inr b) _ = rw (p, b) (omega arith)
      each e le (inl p) (inl b) (inl n) = rw (p, b, n) (omega arith)
      each e le (inl p) (inl b) (inr n) = apart (cases_eq e z)
        where
          apart : (e ≡ z) ⊎ (e ≡ z → ⊥) → bit (P e && before k e z) ≤ bit (N e)
          apart (inl q) = absurd (both_ways (before k e z) (subst (λ (x : ℕ). before k e x ≡ false) q (law.never e le)) b)
          apart (inr ne) =
              let back : before k z e ≡ true = hindmost_behind (λ a b. before k b a) (turned (before k) law) codes R e (omega arith) le (and_from (P e) (not (N e)) p (not_from_false (N e) n)) ne in
              absurd (both_ways (before k z e) (law.one e z le z_low ne ∙ ap not b) back)

  many : size N ≡ min f (size P)
  many = go (cases_lt f (size P)) (cases_lt 0 (size R))
    where
      go : (f < size P) ⊎ (size P ≤ f) → (0 < size R) ⊎ (size R ≤ 0) → size N ≡ min f (size P)
      go (inr h) _ = omega (arith, few h, inside)
      go (inl h) (inl r) = omega (arith, full r, small)
      go (inl h) (inr r) = absurd (omega (arith, parts, small))

  pub inside_kept : (c : ℕ) → N c ≡ true → P c ≡ true
  inside_kept c h = (kept c h).0

foremost_first : (f : ℕ) (ys : List ℕ) (M : Pages) → FirstPages f ys M (foremost f ys M)
foremost_first f ys M =
    record {
      within = λ c _ h. inside_kept f (next ys) (pool ys M) (foremost f ys M) (λ c. refl) (foremost_fits f ys M) c h;
      many = many f (next ys) (pool ys M) (foremost f ys M) (λ c. refl) (foremost_fits f ys M);
      first = first f (next ys) (pool ys M) (foremost f ys M) (λ c. refl) (foremost_fits f ys M);
    }

pub dpmin_holds_first_pages : DpminHoldsFirstPages
dpmin_holds_first_pages f B s t l = (hit, fault)
  where
    H : ℕ → Pages
    H = held_on (dpmin f B) s

    x : ℕ
    x = get_or s t 0

    row : drop t s ≡ x ∷ drop (suc t) s
    row = drop-cons s t 0 l

    hit : H t x ≡ true → H (suc t) ≡ H t
    hit h = dpmin_more f B s t l ∙ ap (λ (r : List ℕ). dpmin_step f r (H t)) row ∙ dpmin_hit f x (drop (suc t) s) (H t) h

    fault : H t x ≡ false → FirstPages f (drop t s) (H t) (H (suc t))
    fault h =
        let e : H (suc t) ≡ foremost f (drop t s) (H t) =
        dpmin_more f B s t l ∙ ap (λ (r : List ℕ). dpmin_step f r (H t)) row ∙ dpmin_fault f x (drop (suc t) s) (H t) h
        ∙ ap (λ (r : List ℕ). foremost f r (H t)) (sym row) in
        subst (λ (N : Pages). FirstPages f (drop t s) (H t) N) (sym e) (foremost_first f (drop t s) (H t))
