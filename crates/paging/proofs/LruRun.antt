-- LRU's run: its table has the latest reference of each page, so the page that goes is the oldest. Assumes nothing.
use Rattle.std.proofs.Common.{◌≡◌, ℕ, zero, suc, ◌<◌, ◌≤◌, Bool, true, false, ◌&&◌, ◌||◌, eqb, ltb, ◌⊎◌, List, [], length, get_or, drop, refl, ap, ◌∙◌, subst, inl, inr, arith}
use Rattle.std.proofs.lemmas.Bool.Decides.{nat_tests}
use Rattle.std.proofs.lemmas.Bool.{cases_eq, both_ways, false≢true}
use Rattle.paging.specs.Pages.{codes, Pages, nothing}
use Rattle.paging.specs.Schedules.{latest, Holding}
use Rattle.paging.specs.Models.{held_on}
use Rattle.paging.specs.Rankings.{RankingModel, admit, hindmost, told_of, later, last_told, untold, own_from}
use Rattle.paging.specs.Policies.{Demand, Oldest}
use Rattle.paging.specs.Theorems.{LruReleasesOldest}
use Rattle.paging.proofs.Next.{latest_at, latest_other, latest_same}
use Rattle.paging.proofs.Hindmost.{hindmost_behind}
use Rattle.paging.proofs.Orders.{later_order}
use Rattle.paging.proofs.OwnRuns.{starting, order_at, own_admits, admits_demand}
use Rattle.paging.proofs.Told.{run, ranking_more, order_more, held_from}

module _ (f : ℕ) (B : Pages) (s : List ℕ) (short : length s ≤ 65535) where
  lru_ranking : (t : ℕ) → t ≤ length s → (run (last_told untold) f B s short t).ranking ≡ last_told (latest s t)
  unfolding latest
  lru_ranking zero l = refl
  lru_ranking (suc t) l =
      ranking_more (last_told untold) f B s short t l ∙
      ap (λ (m : RankingModel). told_of m (suc t) (get_or s t 0) (drop (suc t) s)) (lru_ranking t (omega arith))

  pub lru_order : (t : ℕ) → t < length s → order_at f (starting (last_told untold) B) s t ≡ later (latest s (suc t))
  lru_order t l =
      let F : RankingModel → ℕ → ℕ → Bool = λ m. m [] in
      order_more (last_told untold) f B s short t l ∙ ap F (lru_ranking (suc t) l)

module _ (f : ℕ) (s : List ℕ) (short : length s ≤ 65535) where
  abbrev H : Holding
  H = held_on (own_from (last_told untold) f nothing) s

  -- each page held was referenced
  lru_seen : (t : ℕ) → t ≤ length s → (c : ℕ) → H t c ≡ true → 1 ≤ latest s t c
  lru_seen zero l = λ c h. absurd (false≢true h)
  lru_seen (suc t) l = λ c h. go c (cases_eq (get_or s t 0) c) (held_from (last_told untold) f nothing s t c l h) (lru_seen t (omega arith) c)
    where
      go : (c : ℕ) → (get_or s t 0 ≡ c) ⊎ (get_or s t 0 ≡ c → ⊥) → (get_or s t 0 ≡ c) ⊎ (H t c ≡ true) → (H t c ≡ true → 1 ≤ latest s t c) → 1 ≤ latest s (suc t) c
      go c (inl e) _ _ = omega (arith, latest_at s t c e)
      go c (inr ne) (inl e) _ = absurd (ne e)
      go c (inr ne) (inr m) ih = omega (arith, latest_other s t c ne, ih m)

  lru_oldest : (t : ℕ) → t < length s → H t (get_or s t 0) ≡ false → (z : ℕ) → H t z ≡ true →
      ((c : ℕ) → c < codes → H t c ≡ true → (c ≡ z → ⊥) → later (latest s (suc t)) c z ≡ true) → Oldest s H t z
  lru_oldest t l miss z hz behind c lc hc ne =
      older (latest s t c) (latest s t z) (λ e. ne (latest_same s t c z (lru_seen t (omega arith) c hc) e))
      (rw (latest_other s t c (apart c hc), latest_other s t z (apart z hz)) at (behind c lc hc ne))
    where
      apart : (d : ℕ) → H t d ≡ true → get_or s t 0 ≡ d → ⊥
      apart d h e = both_ways (H t d) (rw e at miss) h

      older : (a b : ℕ) → (a ≡ b → ⊥) → ltb b a || (eqb a b && ltb c z) ≡ true → b < a
      older a b n h = grind (arith, nat_tests)

  pub lru_demand : 1 ≤ f → Demand (Oldest s H) f s H
  lru_demand some =
      admits_demand (Oldest s H) o f s H some
      (λ t l. subst (λ (w : ℕ → ℕ → Bool). H (suc t) ≡ admit f (hindmost w codes (H t)) (get_or s t 0) (H t)) (lru_order f nothing s short t l)
      (own_admits (last_told untold) f nothing s t l))
      (λ t l miss hz. lru_oldest t l miss (hindmost (o t) codes (H t)) hz
      (λ c lc hc ne. hindmost_behind (o t) (later_order (latest s (suc t))) codes (H t) c (omega arith) lc hc ne))
    where
      o : ℕ → ℕ → ℕ → Bool
      o t = later (latest s (suc t))

pub lru_releases_oldest : LruReleasesOldest
lru_releases_oldest f s coded short some = lru_demand f s (omega arith) some
