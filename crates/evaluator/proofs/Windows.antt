-- Working sets by the latest place of each page. Assumes nothing.
use Rattle.std.proofs.Common.{◌≡◌, ℕ, zero, suc, ◌+◌, ◌-◌, ◌<◌, ◌≤◌, Bool, true, false, cond, not, ◌&&◌, ◌||◌, eqb, ltb, ◌⊎◌, List, [], ◌∷◌, ◌++◌, length, get_or, take, drop, set, sym, refl, ap, ◌∙◌, inl, inr, add-one, arith, length-take, take-suc}
use mathlib.Core.Path.{fun_ext}
use Rattle.std.proofs.lemmas.List.{drop_all, drop-append-le, length-take-le, get_or-set_same, get_or-set_other}
use Rattle.std.proofs.lemmas.Bool.{cases_eq, cases_lt, cases_Bool, eq-eqb, ne_eqb, lt-ltb, le-ltb}
use Rattle.std.proofs.lemmas.Bool.Decides.{nat_tests}
use Rattle.paging.specs.Pages.{bit, total, Pages, codes, size, has, with_page, without}
use Rattle.paging.specs.Schedules.{faults, latest}
use Rattle.paging.proofs.Next.{latest_le}
use Rattle.paging.proofs.Queues.{has_append}
use Rattle.paging.proofs.Sums.{total_suc}
use Rattle.evaluator.specs.WorkingSets.{working_set, sizes_to, Windowed, Latest}

pub latest_more : (s : List ℕ) (t c : ℕ) → latest s (suc t) c ≡ cond (eqb (get_or s t 0) c) (suc t) (latest s t c)
unfolding latest
latest_more s t c = refl

pub latest_none : (s : List ℕ) (c : ℕ) → latest s 0 c ≡ 0
unfolding latest
latest_none s c = refl

-- the page stands at its latest place
pub latest_found : (s : List ℕ) (t c j : ℕ) → latest s t c ≡ suc j → get_or s j 0 ≡ c
latest_found s zero c j e = absurd (omega (arith, latest_none s c))
latest_found s (suc t) c j e = go (cases_eq (get_or s t 0) c) (latest_found s t c j)
  where
    go : (get_or s t 0 ≡ c) ⊎ (get_or s t 0 ≡ c → ⊥) → (latest s t c ≡ suc j → get_or s j 0 ≡ c) → get_or s j 0 ≡ c
    go (inl q) _ = let b = eq-eqb (get_or s t 0) c q in let k : t ≡ j = omega (arith, rw b at (latest_more s t c)) in rw (← k) q
    go (inr n) r = let b = ne_eqb (get_or s t 0) c n in r (sym (rw b at (latest_more s t c)) ∙ e)

-- a page is among the last places where its latest place is
pub latest_has : (s : List ℕ) (k t c : ℕ) → t ≤ length s → has (drop k (take t s)) c ≡ ltb k (latest s t c)
latest_has s k zero c l =
    let e : drop k (take 0 s) ≡ [] = drop_all k (take 0 s) (omega (arith, length-take 0 s)) in
    rw (e, latest_none s c) (sym (le-ltb k 0 (omega arith)))
latest_has s k (suc t) c l = go (cases_lt t k) (latest_has s k t c (omega arith))
  where
    x : ℕ
    x = get_or s t 0

    go : (t < k) ⊎ (k ≤ t) → has (drop k (take t s)) c ≡ ltb k (latest s t c) → has (drop k (take (suc t) s)) c ≡ ltb k (latest s (suc t) c)
    go (inl past) _ =
        let e : drop k (take (suc t) s) ≡ [] = drop_all k (take (suc t) s) (omega (arith, length-take-le (suc t) s l)) in
        rw e (sym (le-ltb k (latest s (suc t) c) (omega (arith, latest_le s (suc t) c))))
    go (inr low) r =
        let e : drop k (take (suc t) s) ≡ drop k (take t s) ++ x ∷ [] =
        ap (drop k) (take-suc s t 0 l) ∙ drop-append-le k (take t s) (x ∷ []) (omega (arith, length-take-le t s (omega arith))) in
        ap (λ (ys : List ℕ). has ys c) e ∙ has_append (drop k (take t s)) (x ∷ []) c ∙ ap (λ (b : Bool). b || (eqb x c || false)) r
        ∙ rw (latest_more s t c) (pick (eqb x c))
      where
        pick : (b : Bool) → (ltb k (latest s t c) || (b || false)) ≡ ltb k (cond b (suc t) (latest s t c))
        pick true = rw (lt-ltb k (suc t) (omega arith)) (or_true (ltb k (latest s t c)))
          where
            or_true : (b : Bool) → (b || true) ≡ true
            or_true true = refl
            or_true false = refl
        pick false = or_false (ltb k (latest s t c))
          where
            or_false : (b : Bool) → (b || false) ≡ b
            or_false true = refl
            or_false false = refl

module _ (w : ℕ) (s : List ℕ) (t : ℕ) (l : t < length s) (M : Pages) (win : Windowed w s t M) where
  -- with the page at hand, what counts is the place where the window began
  came : (c : ℕ) → with_page (get_or s t 0) M c ≡ ltb (t - w) (latest s (suc t) c)
  came c = rw (win c, latest_has s (t - w) t c (omega arith), latest_more s t c) (pick (cases_Bool (eqb (get_or s t 0) c)))
    where
      pick : (eqb (get_or s t 0) c ≡ true) ⊎ (eqb (get_or s t 0) c ≡ false) →
          (eqb (get_or s t 0) c || ltb (t - w) (latest s t c)) ≡ ltb (t - w) (cond (eqb (get_or s t 0) c) (suc t) (latest s t c))
      pick (inl b) = rw b (sym (lt-ltb (t - w) (suc t) (omega arith)))
      pick (inr b) = rw b

  slid : (c : ℕ) → working_set w s (t + 1) c ≡ ltb (t + 1 - w) (latest s (suc t) c)
  slid c = latest_has s (t + 1 - w) (t + 1) c (omega arith) ∙ ap (λ (k : ℕ). ltb (t + 1 - w) (latest s k c)) (let e : t + 1 ≡ suc t = omega arith in e)

  -- the window is not full yet
  pub slide_short : t < w → Windowed w s (t + 1) (with_page (get_or s t 0) M)
  slide_short h c = came c ∙ ap (λ (k : ℕ). ltb k (latest s (suc t) c)) (let e : t - w ≡ t + 1 - w = omega arith in e) ∙ sym (slid c)

  -- the page that is left behind was referenced again
  pub slide_stays : w ≤ t → (latest s (t + 1) (get_or s (t - w) 0) ≡ t - w + 1 → ⊥) → Windowed w s (t + 1) (with_page (get_or s t 0) M)
  slide_stays h ne c = came c ∙ go (cases_eq (latest s (suc t) c) (suc (t - w))) ∙ sym (slid c)
    where
      go : (latest s (suc t) c ≡ suc (t - w)) ⊎ (latest s (suc t) c ≡ suc (t - w) → ⊥) → ltb (t - w) (latest s (suc t) c) ≡ ltb (t + 1 - w) (latest s (suc t) c)
      go (inl e) =
          let q = latest_found s (suc t) c (t - w) e in
          absurd (ne (ap (λ (d : ℕ). latest s (t + 1) d) q ∙ ap (λ (k : ℕ). latest s k c) (let a : t + 1 ≡ suc t = omega arith in a) ∙ omega (arith, e)))
      go (inr n) = let a : t + 1 - w ≡ suc (t - w) = omega arith in rw a (grind (arith, nat_tests))

  -- it was not, and goes
  pub slide_goes : w ≤ t → latest s (t + 1) (get_or s (t - w) 0) ≡ t - w + 1 → Windowed w s (t + 1) (without (get_or s (t - w) 0) (with_page (get_or s t 0) M))
  slide_goes h e c = ap (λ (b : Bool). not (eqb (get_or s (t - w) 0) c) && b) (came c) ∙ go (cases_eq (get_or s (t - w) 0) c) ∙ sym (slid c)
    where
      a : t + 1 - w ≡ suc (t - w)
      a = omega arith

      go : (get_or s (t - w) 0 ≡ c) ⊎ (get_or s (t - w) 0 ≡ c → ⊥) →
          (not (eqb (get_or s (t - w) 0) c) && ltb (t - w) (latest s (suc t) c)) ≡ ltb (t + 1 - w) (latest s (suc t) c)
      go (inl q) =
          let f : latest s (suc t) c ≡ t - w + 1 = ap (λ (k : ℕ). latest s k c) (let b : suc t ≡ t + 1 = omega arith in b) ∙ ap (λ (d : ℕ). latest s (t + 1) d) (sym q) ∙ e in
          rw (eq-eqb (get_or s (t - w) 0) c q) (sym (le-ltb (t + 1 - w) (latest s (suc t) c) (omega arith)))
      go (inr n) =
          let m : latest s (suc t) c ≡ suc (t - w) → ⊥ = λ f. n (latest_found s (suc t) c (t - w) f) in
          rw (ne_eqb (get_or s (t - w) 0) c n, a) (grind (arith, nat_tests))

-- the table with the reference at hand
pub latest_set : (s places : List ℕ) (t : ℕ) → length places ≡ 256 → t < length s → get_or s t 0 < codes → Latest s t places →
    Latest s (t + 1) (set places (get_or s t 0) (t + 1))
latest_set s places t wide l low tab c lc = rw (add-one t, latest_more s t c) (go (cases_eq (get_or s t 0) c))
  where
    go : (get_or s t 0 ≡ c) ⊎ (get_or s t 0 ≡ c → ⊥) → get_or (set places (get_or s t 0) (suc t)) c 0 ≡ cond (eqb (get_or s t 0) c) (suc t) (latest s t c)
    go (inl e) = rw (eq-eqb (get_or s t 0) c e) (ap (λ (d : ℕ). get_or (set places (get_or s t 0) (suc t)) d 0) (sym e) ∙ get_or-set_same places (get_or s t 0) (suc t) 0 (omega arith))
    go (inr n) = rw (ne_eqb (get_or s t 0) c n) (get_or-set_other places (get_or s t 0) c (suc t) 0 (λ q. n (sym q)) ∙ tab c lc)

-- one place more in the two sums
pub missing_more : (w : ℕ) (s : List ℕ) (t : ℕ) (M : Pages) → Windowed w s t M →
    faults s (working_set w s) (t + 1) ≡ bit (not (M (get_or s t 0))) + faults s (working_set w s) t
missing_more w s t M win = rw (add-one t, total_suc t (λ u. bit (not (working_set w s u (get_or s u 0)))), win (get_or s t 0))

pub sizes_more : (w : ℕ) (s : List ℕ) (t : ℕ) (M : Pages) → Windowed w s (t + 1) M →
    sizes_to w s (t + 1) ≡ size M + sizes_to w s t
sizes_more w s t M win =
    rw (add-one t, total_suc t (λ u. size (working_set w s (suc u))))
    (ap (λ (N : Pages). size N + total t (λ u. size (working_set w s (suc u)))) (sym (fun_ext (λ c. rw (add-one t) at (win c)))))
