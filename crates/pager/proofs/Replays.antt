-- What the words of a plan tell. Assumes nothing.
use Rattle.std.proofs.Common.{◌≡◌, ℕ, zero, suc, ◌+◌, ◌*◌, ◌<◌, ◌≤◌, Bool, true, false, cond, not, ◌&&◌, ◌||◌, eqb, ltb, leb, ◌⊎◌, List, [], ◌∷◌, ◌++◌, length, sym, refl, ap, ◌∙◌, inl, inr, arith, length-append}
use Rattle.std.proofs.lemmas.Bool.Decides.{nat_tests}
use Rattle.std.proofs.lemmas.Bool.{eq-eqb, ne_eqb, lt-ltb, le-leb, lt-leb, cases_eq, cases_Bool, cases_lt}
use Rattle.paging.specs.Pages.{total, codes, Pages, with_page, without}
use Rattle.paging.specs.Schedules.{Holding, pulled, pulls, releases}
use Rattle.paging.proofs.Sums.{total_none, total_suc}
use Rattle.pager.specs.Plans.{word, place_of, kind_of, code_in, less, words, moves, plan_words, kinds, replayed, PlansTell}
use Rattle.pager.proofs.Places.{pulled_most}
use Rattle.pager.proofs.Words.{words_long}

-- a word is taken apart again
word_place : (p k c : ℕ) → k < 2 → c < 256 → place_of (word p k c) ≡ p
word_place p k c lk lc = omega arith

word_kind : (p k c : ℕ) → k < 2 → c < 256 → kind_of (word p k c) ≡ k
word_kind p k c lk lc = omega arith

word_code : (p k c : ℕ) → k < 2 → c < 256 → code_in (word p k c) ≡ c
word_code p k c lk lc = omega arith

-- the kinds of the words
kinds_append : (k : ℕ) (xs ys : List ℕ) → kinds k (xs ++ ys) ≡ kinds k xs + kinds k ys
unfolding kinds
kinds_append k [] ys = omega arith
kinds_append k (x ∷ xs) ys = omega (arith, kinds_append k xs ys)

kinds_words : (p j k : ℕ) (P : Pages) (n : ℕ) → j < 2 → n ≤ 256 → kinds k (words p j P n) ≡ cond (eqb j k) (length (words p j P n)) 0
unfolding words kinds
kinds_words p j k P zero lj ln = grind (arith, nat_tests)
kinds_words p j k P (suc n) lj ln =
    rw (kinds_append k (words p j P n) (cond (P n) (word p j n ∷ []) []), length-append (words p j P n) (cond (P n) (word p j n ∷ []) []), kinds_words p j k P n lj (omega arith))
    (go (P n) (cases_eq j k))
  where
    go : (b : Bool) → (j ≡ k) ⊎ (j ≡ k → ⊥) →
        cond (eqb j k) (length (words p j P n)) 0 + kinds k (cond b (word p j n ∷ []) []) ≡ cond (eqb j k) (length (words p j P n) + length (cond b (word p j n ∷ []) [])) 0
    go true (inl e) = rw (word_kind p j n lj (omega arith), eq-eqb j k e) (omega arith)
    go true (inr ne) = rw (word_kind p j n lj (omega arith), ne_eqb j k ne)
    go false (inl e) = rw (eq-eqb j k e) (omega arith)
    go false (inr ne) = rw (ne_eqb j k ne)

kinds_moves : (p k : ℕ) (M N : Pages) → kinds k (moves p M N) ≡ cond (eqb 0 k) (pulled N M) 0 + cond (eqb 1 k) (pulled M N) 0
kinds_moves p k M N =
    rw (
      kinds_append k (words p 0 (less M N) codes) (words p 1 (less N M) codes),
      kinds_words p 0 k (less M N) codes (omega arith) (omega arith),
      kinds_words p 1 k (less N M) codes (omega arith) (omega arith),
      words_long p 0 (less M N) codes,
      words_long p 1 (less N M) codes,
    )

plan_pulls : (H : Holding) (p : ℕ) → kinds 1 (plan_words H p) ≡ pulls H p
unfolding plan_words kinds
plan_pulls H zero = sym (total_none (λ t. pulled (H t) (H (suc t))))
plan_pulls H (suc p) =
    omega (
      arith,
      kinds_append 1 (plan_words H p) (moves (suc p) (H p) (H (suc p))),
      kinds_moves (suc p) 1 (H p) (H (suc p)),
      plan_pulls H p,
      total_suc p (λ t. pulled (H t) (H (suc t))),
    )

plan_releases : (H : Holding) (p : ℕ) → kinds 0 (plan_words H p) ≡ releases H p
unfolding plan_words kinds
plan_releases H zero = sym (total_none (λ t. pulled (H (suc t)) (H t)))
plan_releases H (suc p) =
    omega (
      arith,
      kinds_append 0 (plan_words H p) (moves (suc p) (H p) (H (suc p))),
      kinds_moves (suc p) 0 (H p) (H (suc p)),
      plan_releases H p,
      total_suc p (λ t. pulled (H (suc t)) (H t)),
    )

pub plan_long : (H : Holding) (p : ℕ) → length (plan_words H p) ≡ pulls H p + releases H p
unfolding plan_words
plan_long H zero = omega (arith, total_none (λ t. pulled (H t) (H (suc t))), total_none (λ t. pulled (H (suc t)) (H t)))
plan_long H (suc p) =
    omega (
      arith,
      length-append (plan_words H p) (moves (suc p) (H p) (H (suc p))),
      length-append (words (suc p) 0 (less (H p) (H (suc p))) codes) (words (suc p) 1 (less (H (suc p)) (H p)) codes),
      words_long (suc p) 0 (less (H p) (H (suc p))) codes,
      words_long (suc p) 1 (less (H (suc p)) (H p)) codes,
      plan_long H p,
      total_suc p (λ t. pulled (H t) (H (suc t))),
      total_suc p (λ t. pulled (H (suc t)) (H t)),
    )

-- the words followed
replayed_append : (t : ℕ) (xs ys : List ℕ) (M : Pages) → replayed t (xs ++ ys) M ≡ replayed t ys (replayed t xs M)
unfolding replayed
replayed_append t [] ys M = refl
replayed_append t (x ∷ xs) ys M =
    replayed_append t xs ys (cond (leb (place_of x) t) (cond (eqb (kind_of x) 1) (with_page (code_in x) M) (without (code_in x) M)) M)

-- a later place is not looked at
replayed_later : (t p k : ℕ) (P : Pages) (n : ℕ) (M : Pages) → t < p → k < 2 → n ≤ 256 → replayed t (words p k P n) M ≡ M
unfolding words replayed
replayed_later t p k P zero M l lk ln = refl
replayed_later t p k P (suc n) M l lk ln =
    replayed_append t (words p k P n) (cond (P n) (word p k n ∷ []) []) M ∙
    ap (replayed t (cond (P n) (word p k n ∷ []) [])) (replayed_later t p k P n M l lk (omega arith)) ∙ go (P n)
  where
    go : (b : Bool) → replayed t (cond b (word p k n ∷ []) []) M ≡ M
    go true = rw (word_place p k n lk (omega arith), lt-leb p t l)
    go false = refl

replayed_pulls : (t p : ℕ) (P : Pages) (n : ℕ) (M : Pages) → p ≤ t → n ≤ 256 → (c : ℕ) → replayed t (words p 1 P n) M c ≡ (M c || (ltb c n && P c))
unfolding words replayed
replayed_pulls t p P zero M l ln c = grind (arith, nat_tests)
replayed_pulls t p P (suc n) M l ln c =
    ap (λ (N : Pages). N c) (replayed_append t (words p 1 P n) (cond (P n) (word p 1 n ∷ []) []) M) ∙ go (cases_Bool (P n)) (cases_eq n c) (replayed_pulls t p P n M l (omega arith) c)
  where
    go : (P n ≡ true) ⊎ (P n ≡ false) → (n ≡ c) ⊎ (n ≡ c → ⊥) → replayed t (words p 1 P n) M c ≡ (M c || (ltb c n && P c)) →
        replayed t (cond (P n) (word p 1 n ∷ []) []) (replayed t (words p 1 P n) M) c ≡ (M c || (ltb c (suc n) && P c))
    go (inl y) (inl e) r =
        let pc : P c ≡ true = rw e at y in
        rw (y, word_place p 1 n (omega arith) (omega arith), le-leb p t l, word_kind p 1 n (omega arith) (omega arith), word_code p 1 n (omega arith) (omega arith), eq-eqb n c e, pc) (grind (arith, nat_tests))
    go (inl y) (inr ne) r =
        rw (y, word_place p 1 n (omega arith) (omega arith), le-leb p t l, word_kind p 1 n (omega arith) (omega arith), word_code p 1 n (omega arith) (omega arith), ne_eqb n c ne, r) (grind (arith, nat_tests))
    go (inr y) (inl e) r =
        let pc : P c ≡ false = rw e at y in
        rw (y, r, pc) (grind (arith, nat_tests))
    go (inr y) (inr ne) r = rw (y, r) (grind (arith, nat_tests))

replayed_releases : (t p : ℕ) (P : Pages) (n : ℕ) (M : Pages) → p ≤ t → n ≤ 256 → (c : ℕ) → replayed t (words p 0 P n) M c ≡ (M c && not (ltb c n && P c))
unfolding words replayed
replayed_releases t p P zero M l ln c = grind (arith, nat_tests)
replayed_releases t p P (suc n) M l ln c =
    ap (λ (N : Pages). N c) (replayed_append t (words p 0 P n) (cond (P n) (word p 0 n ∷ []) []) M) ∙ go (cases_Bool (P n)) (cases_eq n c) (replayed_releases t p P n M l (omega arith) c)
  where
    go : (P n ≡ true) ⊎ (P n ≡ false) → (n ≡ c) ⊎ (n ≡ c → ⊥) → replayed t (words p 0 P n) M c ≡ (M c && not (ltb c n && P c)) →
        replayed t (cond (P n) (word p 0 n ∷ []) []) (replayed t (words p 0 P n) M) c ≡ (M c && not (ltb c (suc n) && P c))
    go (inl y) (inl e) r =
        let pc : P c ≡ true = rw e at y in
        rw (y, word_place p 0 n (omega arith) (omega arith), le-leb p t l, word_kind p 0 n (omega arith) (omega arith), word_code p 0 n (omega arith) (omega arith), eq-eqb n c e, pc) (grind (arith, nat_tests))
    go (inl y) (inr ne) r =
        rw (y, word_place p 0 n (omega arith) (omega arith), le-leb p t l, word_kind p 0 n (omega arith) (omega arith), word_code p 0 n (omega arith) (omega arith), ne_eqb n c ne, r) (grind (arith, nat_tests))
    go (inr y) (inl e) r =
        let pc : P c ≡ false = rw e at y in
        rw (y, r, pc) (grind (arith, nat_tests))
    go (inr y) (inr ne) r = rw (y, r) (grind (arith, nat_tests))

moves_later : (t p : ℕ) (M N Q : Pages) → t < p → replayed t (moves p M N) Q ≡ Q
moves_later t p M N Q l =
    replayed_append t (words p 0 (less M N) codes) (words p 1 (less N M) codes) Q ∙
    ap (replayed t (words p 1 (less N M) codes)) (replayed_later t p 0 (less M N) codes Q l (omega arith) (omega arith)) ∙
    replayed_later t p 1 (less N M) codes Q l (omega arith) (omega arith)

moves_now : (t p : ℕ) (M N Q : Pages) → p ≤ t → (c : ℕ) → c < codes → Q c ≡ M c → replayed t (moves p M N) Q c ≡ N c
moves_now t p M N Q l c lc e =
    ap (λ (R : Pages). R c) (replayed_append t (words p 0 (less M N) codes) (words p 1 (less N M) codes) Q) ∙
    replayed_pulls t p (less N M) codes (replayed t (words p 0 (less M N) codes) Q) l (omega arith) c ∙
    ap (λ (b : Bool). b || (ltb c codes && less N M c)) (replayed_releases t p (less M N) codes Q l (omega arith) c) ∙
    rw (lt-ltb c codes lc, e) (both (M c) (N c))
  where
    both : (a b : Bool) → ((a && not (a && not b)) || (b && not a)) ≡ b
    both true true = refl
    both true false = refl
    both false true = refl
    both false false = refl

-- all words so far, and then those up to a place
plan_through : (H : Holding) (p t c : ℕ) → p ≤ t → c < codes → replayed t (plan_words H p) (H 0) c ≡ H p c
unfolding plan_words replayed
plan_through H zero t c l lc = refl
plan_through H (suc p) t c l lc =
    ap (λ (R : Pages). R c) (replayed_append t (plan_words H p) (moves (suc p) (H p) (H (suc p))) (H 0)) ∙
    moves_now t (suc p) (H p) (H (suc p)) (replayed t (plan_words H p) (H 0)) l c lc (plan_through H p t c (omega arith) lc)

plan_holds : (H : Holding) (p t c : ℕ) → t ≤ p → c < codes → replayed t (plan_words H p) (H 0) c ≡ H t c
unfolding plan_words replayed
plan_holds H zero t c l lc = let e : t ≡ 0 = omega arith in rw e
plan_holds H (suc p) t c l lc = go (cases_lt t (suc p)) (plan_holds H p t c)
  where
    go : (t < suc p) ⊎ (suc p ≤ t) → (t ≤ p → c < codes → replayed t (plan_words H p) (H 0) c ≡ H t c) → replayed t (plan_words H (suc p)) (H 0) c ≡ H t c
    go (inl less) r =
        ap (λ (R : Pages). R c) (replayed_append t (plan_words H p) (moves (suc p) (H p) (H (suc p))) (H 0)) ∙
        ap (λ (R : Pages). R c) (moves_later t (suc p) (H p) (H (suc p)) (replayed t (plan_words H p) (H 0)) less) ∙ r (omega arith) lc
    go (inr more) _ = let e : t ≡ suc p = omega arith in plan_through H (suc p) t c more lc ∙ rw e

pub plans_tell : PlansTell
plans_tell H p =
    record { pulling = plan_pulls H p; releasing = plan_releases H p; all = plan_long H p; holds = λ t c l lc. plan_holds H p t c l lc }

-- at each place every code moves at most once each way
pub plan_most : (H : Holding) (p : ℕ) → length (plan_words H p) ≤ 512 * p
plan_most H p = omega (arith, plan_long H p, sum p (λ t. pulled (H t) (H (suc t))) (λ t. pulled_most (H t) (H (suc t))), sum p (λ t. pulled (H (suc t)) (H t)) (λ t. pulled_most (H (suc t)) (H t)))
  where
    sum : (n : ℕ) (g : ℕ → ℕ) → ((t : ℕ) → g t ≤ 256) → total n g ≤ 256 * n
    sum zero g e = omega (arith, total_none g)
    sum (suc n) g e = omega (arith, total_suc n g, sum n g e, e n)
