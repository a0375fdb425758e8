-- What a ranking is told in its own run over a string whose places can all be told. Assumes nothing.
use Rattle.std.proofs.Common.{◌≡◌, ℕ, zero, suc, ◌<◌, ◌≤◌, Bool, true, ◌⊎◌, List, [], length, get_or, drop, sym, refl, ap, ◌∙◌, subst, arith}
use Rattle.paging.specs.Pages.{codes, Pages}
use Rattle.paging.specs.Models.{held_on}
use Rattle.paging.specs.Rankings.{RankingModel, OwnRun, hindmost, told_of, capped, own_step, own_from}
use Rattle.paging.proofs.Models.{states}
use Rattle.paging.proofs.OwnRuns.{starting, order_at, own_more, own_admits, admit_from}

module _ (r : RankingModel) (f : ℕ) (B : Pages) (s : List ℕ) (short : length s ≤ 65535) where
  abbrev pub run : ℕ → OwnRun
  run t = states (own_step f) (starting r B) s t

  -- no place is too large to be told
  pub count_at : (t : ℕ) → t ≤ length s → (run t).count ≡ t
  count_at zero l = refl
  count_at (suc t) l =
      let F : OwnRun → ℕ = λ q. q.count in
      ap F (own_more f (starting r B) s t l) ∙ omega (arith, count_at t (omega arith))

  pub told_at : (t : ℕ) → t < length s → capped (suc (run t).count) ≡ suc t
  told_at t l = omega (arith, count_at t (omega arith))

  pub ranking_more : (t : ℕ) → t < length s → (run (suc t)).ranking ≡ told_of (run t).ranking (suc t) (get_or s t 0) (drop (suc t) s)
  ranking_more t l =
      let F : OwnRun → RankingModel = λ q. q.ranking in
      ap F (own_more f (starting r B) s t l) ∙
      ap (λ (n : ℕ). told_of (run t).ranking n (get_or s t 0) (drop (suc t) s)) (told_at t l)

  pub order_more : (t : ℕ) → t < length s → order_at f (starting r B) s t ≡ (run (suc t)).ranking []
  order_more t l =
      let F : OwnRun → ℕ → ℕ → Bool = λ q. q.ranking [] in sym (ap F (own_more f (starting r B) s t l))

-- a page held after a reference is the page referenced, or was held before
pub held_from : (r : RankingModel) (f : ℕ) (B : Pages) (s : List ℕ) (t c : ℕ) → t < length s → held_on (own_from r f B) s (suc t) c ≡ true →
    (get_or s t 0 ≡ c) ⊎ (held_on (own_from r f B) s t c ≡ true)
held_from r f B s t c l h =
    admit_from f (hindmost (order_at f (starting r B) s t) codes (held_on (own_from r f B) s t)) (get_or s t 0) (held_on (own_from r f B) s t) c
    (subst (λ (M : Pages). M c ≡ true) (own_admits r f B s t l) h)
