-- The page of a set that is behind all others. Assumes nothing.
use Rattle.std.proofs.Common.{◌≡◌, ℕ, zero, suc, ◌+◌, ◌<◌, ◌≤◌, Bool, true, false, cond, not, ◌&&◌, ◌||◌, ◌⊎◌, sym, refl, ap, ◌∙◌, inl, inr, arith}
use Rattle.std.proofs.lemmas.Bool.{cases_eq, cases_Bool, both_ways}
use Rattle.paging.specs.Pages.{bit, codes, Pages, size}
use Rattle.paging.specs.Rankings.{Order, hindmost}
use Rattle.paging.proofs.Sums.{total_zero}

pub hindmost_none : (o : ℕ → ℕ → Bool) (M : Pages) → hindmost o 0 M ≡ 0
unfolding hindmost
hindmost_none o M = refl

-- one more code is looked at
pub hindmost_more : (o : ℕ → ℕ → Bool) (n : ℕ) (M : Pages) →
    hindmost o (n + 1) M ≡ cond (M n && (not (M (hindmost o n M)) || o (hindmost o n M) n)) n (hindmost o n M)
unfolding hindmost
hindmost_more o n M = let e : n + 1 ≡ suc n = omega arith in rw e

pub hindmost_below : (o : ℕ → ℕ → Bool) (n : ℕ) (M : Pages) → 0 < n → hindmost o n M < n
unfolding hindmost
hindmost_below o zero M l = omega arith
hindmost_below o (suc zero) M l = grind arith
hindmost_below o (suc (suc n)) M l = let r = hindmost_below o (suc n) M (omega arith) in grind arith

-- it is of the set, where the set has any page below n
pub hindmost_in : (o : ℕ → ℕ → Bool) (n : ℕ) (M : Pages) (c : ℕ) → c < n → M c ≡ true → M (hindmost o n M) ≡ true
unfolding hindmost
hindmost_in o zero M c l h = absurd (omega arith)
hindmost_in o (suc n) M c l h = go (cases_eq c n) (hindmost_in o n M c)
  where
    z : ℕ
    z = hindmost o n M

    go : (c ≡ n) ⊎ (c ≡ n → ⊥) → (c < n → M c ≡ true → M z ≡ true) → M (cond (M n && (not (M z) || o z n)) n z) ≡ true
    go (inl e) _ = let m : M n ≡ true = rw e at h in pick (M z) refl (o z n) refl m
      where
        pick : (b : Bool) → M z ≡ b → (d : Bool) → o z n ≡ d → M n ≡ true → M (cond (M n && (not (M z) || o z n)) n z) ≡ true
        pick true mz true oz m = rw (m, mz, oz) m
        pick true mz false oz m = rw (m, mz, oz) mz
        pick false mz d oz m = rw (m, mz) m
    go (inr ne) r = let mz = r (omega arith) h in keep (M n) refl (o z n) refl mz
      where
        keep : (b : Bool) → M n ≡ b → (d : Bool) → o z n ≡ d → M z ≡ true → M (cond (M n && (not (M z) || o z n)) n z) ≡ true
        keep true mn true oz mz = rw (mn, mz, oz) mn
        keep true mn false oz mz = rw (mn, mz, oz) mz
        keep false mn d oz mz = rw mn mz

-- a set that is not empty has it
pub hindmost_held : (o : ℕ → ℕ → Bool) (M : Pages) → 1 ≤ size M → M (hindmost o codes M) ≡ true
hindmost_held o M some = go (cases_Bool (M (hindmost o codes M)))
  where
    none : M (hindmost o codes M) ≡ false → (c : ℕ) → c < codes → (M c ≡ true) ⊎ (M c ≡ false) → bit (M c) ≡ 0
    none e c l (inl h) = absurd (both_ways (M (hindmost o codes M)) e (hindmost_in o codes M c l h))
    none e c l (inr h) = rw h

    go : (M (hindmost o codes M) ≡ true) ⊎ (M (hindmost o codes M) ≡ false) → M (hindmost o codes M) ≡ true
    go (inl e) = e
    go (inr e) = absurd (omega (arith, total_zero codes (λ c. bit (M c)) (λ c l. none e c l (cases_Bool (M c)))))

-- each other page of the set is ahead of it
pub hindmost_behind : (o : ℕ → ℕ → Bool) → Order o → (n : ℕ) (M : Pages) (c : ℕ) → n ≤ codes → c < n → M c ≡ true → (c ≡ hindmost o n M → ⊥) →
    o c (hindmost o n M) ≡ true
unfolding hindmost
hindmost_behind o law zero M c f l h ne = absurd (omega arith)
hindmost_behind o law (suc n) M c f l h ne = go (cases_eq c n) (cases_Bool (M n)) (cases_Bool (o z n)) (hindmost_behind o law n M c (omega arith))
  where
    z : ℕ
    z = hindmost o n M

    low : (0 < n) → z < codes
    low p = omega (arith, hindmost_below o n M p)

    go : (c ≡ n) ⊎ (c ≡ n → ⊥) → (M n ≡ true) ⊎ (M n ≡ false) → (o z n ≡ true) ⊎ (o z n ≡ false) → (c < n → M c ≡ true → (c ≡ z → ⊥) → o c z ≡ true) →
        o c (hindmost o (suc n) M) ≡ true
    go (inl e) (inr no-n) _ _ = absurd (both_ways (M n) no-n (rw e at h))
    go (inl e) (inl mn) (inl ozn) _ = absurd (ne (let q : hindmost o (suc n) M ≡ n = rw (mn, ozn) (last (M z)) in e ∙ sym q))
      where
        last : (b : Bool) → cond (not b || true) n z ≡ n
        last true = refl
        last false = refl
    go (inl e) (inl mn) (inr ozn) _ = kept (cases_Bool (M z))
      where
        kept : (M z ≡ true) ⊎ (M z ≡ false) → o c (hindmost o (suc n) M) ≡ true
        kept (inl mz) = rw (mn, mz, ozn) (flip (cases_eq z n))
          where
            flip : (z ≡ n) ⊎ (z ≡ n → ⊥) → o c z ≡ true
            flip (inl q) = absurd (ne (e ∙ sym q ∙ rw (mn, mz, ozn)))
            flip (inr nz) =
                let pos : 0 < n = omega (arith, low') in
                rw e (law.one z n (low pos) (omega arith) nz ∙ ap not ozn)
              where
                low' : n ≡ 0 → ⊥
                low' q = nz (rw (q, hindmost_none o M))
        kept (inr mz) = absurd (ne (e ∙ sym (rw (mn, mz))))
    go (inr nc) mn oz ih = rest mn oz (cases_Bool (M z))
      where
        cl : c < n
        cl = omega arith

        mz : M z ≡ true
        mz = hindmost_in o n M c cl h

        rest : (M n ≡ true) ⊎ (M n ≡ false) → (o z n ≡ true) ⊎ (o z n ≡ false) → (M z ≡ true) ⊎ (M z ≡ false) → o c (hindmost o (suc n) M) ≡ true
        rest _ _ (inr none) = absurd (both_ways (M z) none mz)
        rest (inr no-n) _ (inl m) = rw no-n (ih cl h (λ q. ne (q ∙ sym (rw no-n))))
        rest (inl yes-n) (inr back) (inl m) = rw (yes-n, m, back) (ih cl h (λ q. ne (q ∙ sym (rw (yes-n, m, back)))))
        rest (inl yes-n) (inl on) (inl m) = rw (yes-n, m, on) (via (cases_eq c z))
          where
            via : (c ≡ z) ⊎ (c ≡ z → ⊥) → o c n ≡ true
            via (inl q) = rw q on
            via (inr nq) = law.chain c z n (omega arith) (low (omega arith)) (omega arith) (ih cl h nq) on

-- only one page of a set is behind all others
pub hindmost_only : (o : ℕ → ℕ → Bool) → Order o → (M : Pages) (z : ℕ) → z < codes → M z ≡ true →
    ((c : ℕ) → c < codes → M c ≡ true → (c ≡ z → ⊥) → o c z ≡ true) → hindmost o codes M ≡ z
hindmost_only o law M z l h all = go (cases_eq z (hindmost o codes M))
  where
    w : ℕ
    w = hindmost o codes M

    wl : w < codes
    wl = hindmost_below o codes M (omega arith)

    go : (z ≡ w) ⊎ (z ≡ w → ⊥) → w ≡ z
    go (inl e) = sym e
    go (inr ne) =
        let zw : o z w ≡ true = hindmost_behind o law codes M z (omega arith) l h ne in
        let wz : o w z ≡ true = all w wl (hindmost_in o codes M z l h) (λ q. ne (sym q)) in
        absurd (both_ways (o w z) (law.one z w l wl ne ∙ ap not zw) wz)
