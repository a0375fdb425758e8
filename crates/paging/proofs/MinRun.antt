-- MIN's run: its table has the next reference of each page held, so the page that goes is the furthest. Assumes nothing.
use Rattle.std.proofs.Common.{◌≡◌, ℕ, zero, suc, ◌+◌, ◌-◌, ◌<◌, ◌≤◌, Bool, true, false, cond, not, ◌&&◌, ◌||◌, eqb, ltb, ◌⊎◌, List, [], length, get_or, drop, refl, ap, ◌∙◌, subst, inl, inr, arith, length-drop, drop-cons}
use Rattle.std.proofs.lemmas.Bool.Decides.{nat_tests}
use Rattle.std.proofs.lemmas.Bool.{eq-eqb, ne_eqb, cases_eq, cases_lt, both_ways, false≢true}
use Rattle.paging.specs.Pages.{codes, Pages, nothing}
use Rattle.paging.specs.Schedules.{next, Holding}
use Rattle.paging.specs.Models.{held_on}
use Rattle.paging.specs.Rankings.{RankingModel, admit, hindmost, told_of, next_place, capped, noted, nearer, next_told, untold, own_from}
use Rattle.paging.specs.Policies.{Demand, Furthest}
use Rattle.paging.specs.Theorems.{MinReleasesFurthest}
use Rattle.paging.proofs.Next.{next_le, next_other}
use Rattle.paging.proofs.Hindmost.{hindmost_behind}
use Rattle.paging.proofs.Orders.{nearer_order}
use Rattle.paging.proofs.OwnRuns.{starting, order_at, own_admits, admits_demand, hindmost_low}
use Rattle.paging.proofs.Told.{run, ranking_more, order_more, held_from}

-- MIN's table after the first t references, from the table k
abbrev next_table : (ℕ → ℕ) → List ℕ → ℕ → ℕ → ℕ
next_table k s zero = k
next_table k s (suc t) = noted (next_table k s t) (get_or s t 0) (next_place (suc t) (get_or s t 0) (drop (suc t) s))

-- the place of the next reference to c after the first t, or 0 for none
abbrev coming : List ℕ → ℕ → ℕ → ℕ
coming s t c = cond (ltb (next (drop t s) c) (length (drop t s))) (suc (t + next (drop t s) c)) 0

coming_more : (s : List ℕ) (t c : ℕ) → t < length s → (get_or s t 0 ≡ c → ⊥) → coming s t c ≡ coming s (suc t) c
coming_more s t c l ne =
    rw (drop-cons s t 0 l, next_other (get_or s t 0) (drop (suc t) s) c ne) (grind (arith, nat_tests))

coming_here : (s : List ℕ) (t c : ℕ) → t < length s → length s ≤ 65535 → next_place (suc t) c (drop (suc t) s) ≡ coming s (suc t) c
coming_here s t c l short = pick (next (drop (suc t) s) c) (length (drop (suc t) s)) (length-drop (suc t) s)
  where
    pick : (n m : ℕ) → m ≡ length s - suc t → cond (ltb n m) (capped (suc t + suc n)) 0 ≡ cond (ltb n m) (suc (suc t + n)) 0
    pick n m e = go (cases_lt n m)
      where
        go : (n < m) ⊎ (m ≤ n) → cond (ltb n m) (capped (suc t + suc n)) 0 ≡ cond (ltb n m) (suc (suc t + n)) 0
        go (inl q) = let w : capped (suc t + suc n) ≡ suc (suc t + n) = omega arith in rw w
        go (inr q) = grind (arith, nat_tests)

-- the nearer page in the table is the nearer one
nearer_comes : (a b n m w t c z : ℕ) → n ≤ w → m ≤ w → a ≡ cond (ltb n w) (suc (t + n)) 0 → b ≡ cond (ltb m w) (suc (t + m)) 0 →
    cond (eqb a b) (ltb c z) (eqb b 0 || (not (eqb a 0) && ltb a b)) ≡ true → (n ≤ m) × (n ≡ m → c ≤ z)
nearer_comes a b n m w t c z ln lm ea eb h = grind (arith, nat_tests)

module _ (k : ℕ → ℕ) (f : ℕ) (B : Pages) (s : List ℕ) (short : length s ≤ 65535)
    (knows : (c : ℕ) → c < codes → B c ≡ true → k c ≡ coming s 0 c) where
  abbrev H : Holding
  H = held_on (own_from (next_told k) f B) s

  min_ranking : (t : ℕ) → t ≤ length s → (run (next_told k) f B s short t).ranking ≡ next_told (next_table k s t)
  min_ranking zero l = refl
  min_ranking (suc t) l =
      ranking_more (next_told k) f B s short t l ∙
      ap (λ (m : RankingModel). told_of m (suc t) (get_or s t 0) (drop (suc t) s)) (min_ranking t (omega arith))

  min_order : (t : ℕ) → t < length s → order_at f (starting (next_told k) B) s t ≡ nearer (next_table k s (suc t))
  min_order t l =
      let F : RankingModel → ℕ → ℕ → Bool = λ m. m [] in
      order_more (next_told k) f B s short t l ∙ ap F (min_ranking (suc t) l)

  -- of each page held, the table has the next reference
  min_knows : (t : ℕ) → t ≤ length s → (c : ℕ) → c < codes → H t c ≡ true → next_table k s t c ≡ coming s t c
  min_knows zero l = knows
  min_knows (suc t) l = λ c lc h. go c lc h (cases_eq (get_or s t 0) c) (held_from (next_told k) f B s t c l h) (min_knows t (omega arith) c lc)
    where
      go : (c : ℕ) → c < codes → H (suc t) c ≡ true → (get_or s t 0 ≡ c) ⊎ (get_or s t 0 ≡ c → ⊥) → (get_or s t 0 ≡ c) ⊎ (H t c ≡ true) →
          (H t c ≡ true → next_table k s t c ≡ coming s t c) → next_table k s (suc t) c ≡ coming s (suc t) c
      go c lc h (inl e) _ _ = rw (eq-eqb (get_or s t 0) c e, e) (coming_here s t c l short)
      go c lc h (inr ne) (inl e) _ = absurd (ne e)
      go c lc h (inr ne) (inr m) ih = rw (ne_eqb (get_or s t 0) c ne) (ih m ∙ coming_more s t c l ne)

  -- at a fault too, once the ranking is told
  min_knows_told : (t : ℕ) → t < length s → H t (get_or s t 0) ≡ false → (c : ℕ) → c < codes → H t c ≡ true → next_table k s (suc t) c ≡ coming s t c
  min_knows_told t l miss c lc h =
      rw (ne_eqb (get_or s t 0) c (λ e. both_ways (H t c) (rw e at miss) h)) (min_knows t (omega arith) c lc h)

  min_furthest : (t : ℕ) → t < length s → H t (get_or s t 0) ≡ false → (z : ℕ) → z < codes → H t z ≡ true →
      ((c : ℕ) → c < codes → H t c ≡ true → (c ≡ z → ⊥) → nearer (next_table k s (suc t)) c z ≡ true) → Furthest s H t z
  min_furthest t l miss z lz hz behind c lc hc = go (cases_eq c z)
    where
      go : (c ≡ z) ⊎ (c ≡ z → ⊥) → (next (drop t s) c ≤ next (drop t s) z) × (next (drop t s) c ≡ next (drop t s) z → c ≤ z)
      go (inl e) = rw e (omega arith, λ _. omega arith)
      go (inr ne) =
          nearer_comes (next_table k s (suc t) c) (next_table k s (suc t) z) (next (drop t s) c) (next (drop t s) z) (length (drop t s)) t c z
          (next_le (drop t s) c) (next_le (drop t s) z) (min_knows_told t l miss c lc hc) (min_knows_told t l miss z lz hz) (behind c lc hc ne)

  -- MIN from any start that its table knows
  pub min_demand : 1 ≤ f → Demand (Furthest s H) f s H
  min_demand some =
      admits_demand (Furthest s H) o f s H some
      (λ t l. subst (λ (w : ℕ → ℕ → Bool). H (suc t) ≡ admit f (hindmost w codes (H t)) (get_or s t 0) (H t)) (min_order t l)
      (own_admits (next_told k) f B s t l))
      (λ t l miss hz. min_furthest t l miss (hindmost (o t) codes (H t)) (hindmost_low (o t) (H t)) hz
      (λ c lc hc ne. hindmost_behind (o t) (nearer_order (next_table k s (suc t))) codes (H t) c (omega arith) lc hc ne))
    where
      o : ℕ → ℕ → ℕ → Bool
      o t = nearer (next_table k s (suc t))

pub min_releases_furthest : MinReleasesFurthest
min_releases_furthest f s coded short some =
    min_demand untold f nothing s (omega arith) (λ c _ e. absurd (false≢true e)) some
