-- Schedules that pull one page at a time, at faults only. Assumes nothing.
use Rattle.std.proofs.Common.{◌≡◌, ℕ, zero, suc, ◌<◌, ◌≤◌, Bool, true, false, not, eqb, ◌⊎◌, List, length, get_or, sym, ap, ◌∙◌, inl, inr, arith}
use Rattle.std.proofs.lemmas.Bool.{cases_Bool, cases_lt, and_parts}
use Rattle.paging.specs.Pages.{bit, nothing, size, without}
use Rattle.paging.specs.Schedules.{Coded, Holding, pulled, pulls, faults}
use Rattle.paging.specs.Models.{held_on}
use Rattle.paging.specs.Rankings.{own}
use Rattle.paging.specs.Policies.{Demand}
use Rattle.paging.specs.Theorems.{OwnPullsAtFaults}
use Rattle.paging.proofs.Sums.{total_none, total_suc}
use Rattle.paging.proofs.Sets.{none_pulled, one_pulled}
use Rattle.paging.proofs.OwnRuns.{starting, order_at, own_admits, admits_demand}

module _ (Goes : ℕ → ℕ → Type 0) (f : ℕ) (s : List ℕ) (H : Holding) (coded : Coded s) (d : Demand Goes f s H) where
  -- one place pulls one page at a fault, and none at a hit
  pub demand_pulled : (t : ℕ) → t < length s → pulled (H t) (H (suc t)) ≡ bit (not (H t (get_or s t 0)))
  demand_pulled t l = go (cases_Bool (H t (get_or s t 0))) (cases_lt (size (H t)) f)
    where
      fault : H t (get_or s t 0) ≡ false → pulled (H t) (H (suc t)) ≡ 1 → pulled (H t) (H (suc t)) ≡ bit (not (H t (get_or s t 0)))
      fault m e = e ∙ sym (ap (λ (b : Bool). bit (not b)) m)

      go : (H t (get_or s t 0) ≡ true) ⊎ (H t (get_or s t 0) ≡ false) → (size (H t) < f) ⊎ (f ≤ size (H t)) →
          pulled (H t) (H (suc t)) ≡ bit (not (H t (get_or s t 0)))
      go (inl m) _ = ap (pulled (H t)) (d.hit t l m) ∙ none_pulled (H t) ∙ sym (ap (λ (b : Bool). bit (not b)) m)
      go (inr m) (inl few) = fault m (ap (pulled (H t)) (d.room t l m few) ∙ one_pulled (get_or s t 0) (H t) (H t) (coded t l) m (λ c e. e))
      go (inr m) (inr many) =
          let r = d.full t l m many in
          fault m (ap (pulled (H t)) r.then ∙
          one_pulled (get_or s t 0) (H t) (without r.out (H t)) (coded t l) m (λ c e. (and_parts (not (eqb r.out c)) (H t c) e).1))

  pub demand_pulls : (p : ℕ) → p ≤ length s → pulls H p ≡ faults s H p
  demand_pulls zero l = total_none (λ t. pulled (H t) (H (suc t))) ∙ sym (total_none (λ t. bit (not (H t (get_or s t 0)))))
  demand_pulls (suc p) l =
      omega (
        arith,
        demand_pulls p (omega arith),
        demand_pulled p l,
        total_suc p (λ t. pulled (H t) (H (suc t))),
        total_suc p (λ t. bit (not (H t (get_or s t 0)))),
      )

pub own_pulls_at_faults : OwnPullsAtFaults
own_pulls_at_faults r f s coded some =
    demand_pulls (λ _ _. Unit) f s (held_on (own r f) s) coded
    (admits_demand (λ _ _. Unit) (order_at f (starting r nothing) s) f s (held_on (own r f) s) some (own_admits r f nothing s) (λ _ _ _ _. tt))
    (length s) (omega arith)
