-- What f frames hold, one frame more holds too, for every ranking. Assumes nothing.
use Rattle.std.proofs.Common.{◌≡◌, ℕ, zero, suc, ◌≤◌, Bool, true, false, not, List, [], ◌∷◌, length, get_or, take, drop, sym, refl, ap, ◌∙◌, inl, inr, arith}
use Rattle.std.proofs.lemmas.Bool.{cases_Bool, both_ways}
use Rattle.paging.specs.Pages.{bit, Pages, has}
use Rattle.paging.specs.Schedules.{Coded}
use Rattle.paging.specs.Queues.{once, coded}
use Rattle.paging.specs.Models.{held_on}
use Rattle.paging.specs.Rankings.{RankingModel, Orders, told_of, capped, own, own_from}
use Rattle.paging.proofs.Sums.{total_le}
use Rattle.ranking.specs.Stack.{restacked}
use Rattle.ranking.specs.Theorems.{Inclusion, FaultsFall}
use Rattle.ranking.proofs.Lists.{has_before}
use Rattle.ranking.proofs.Stacks.{once_restacked, coded_restacked}
use Rattle.ranking.proofs.Passes.{run_state, run_after, run_step, held_then}

-- one stack for the runs at all frame counts, which begin with the first pages of the stack st₀, after t places
pub record Stacked (r₀ : RankingModel) (st₀ s : List ℕ) (t : ℕ) : Type 0 where
  pub ranking : RankingModel
  pub orders : Orders ranking
  pub count : ℕ
  pub stack : List ℕ
  pub apart : once stack ≡ true
  pub low : coded stack ≡ true
  pub runs : (f : ℕ) → run_after r₀ (suc f) (has (take (suc f) st₀)) s t ≡ run_state ranking count (has (take (suc f) stack))

pub stacked : (r₀ : RankingModel) → Orders r₀ → (st₀ : List ℕ) → once st₀ ≡ true → coded st₀ ≡ true → (s : List ℕ) → Coded s →
    (t : ℕ) → t ≤ length s → Stacked r₀ st₀ s t
stacked r₀ orders st₀ a l s all zero h =
    record { ranking = r₀; orders = orders; count = 0; stack = st₀; apart = a; low = l; runs = λ f. refl }
stacked r₀ orders st₀ a l s all (suc t) h = next (stacked r₀ orders st₀ a l s all t (omega arith))
  where
    next : Stacked r₀ st₀ s t → Stacked r₀ st₀ s (suc t)
    next b =
        let x = get_or s t 0 in
        let r = told_of b.ranking (capped (suc b.count)) x (drop (suc t) s) in
        let o : Orders r = λ ts. b.orders (_ ∷ ts) in
        record {
          ranking = r;
          orders = o;
          count = capped (suc b.count);
          stack = restacked (r []) x b.stack;
          apart = once_restacked (r []) x b.stack b.apart;
          low = coded_restacked (r []) x b.stack (all t (omega arith)) b.low;
          runs = λ f. run_step r₀ b.ranking (has (take (suc f) st₀)) s b.stack t b.count f o b.apart b.low (omega arith) (b.runs f);
        }

-- the set at f frames is part of that at one frame more
pub included : (r : RankingModel) → Orders r → (st₀ : List ℕ) → once st₀ ≡ true → coded st₀ ≡ true → (s : List ℕ) → Coded s → (f t c : ℕ) → t ≤ length s →
    held_on (own_from r (suc f) (has (take (suc f) st₀))) s t c ≡ true →
    held_on (own_from r (suc (suc f)) (has (take (suc (suc f)) st₀))) s t c ≡ true
included r orders st₀ a l s all f t c h m =
    go (stacked r orders st₀ a l s all t h)
  where
    go : Stacked r st₀ s t → held_on (own_from r (suc (suc f)) (has (take (suc (suc f)) st₀))) s t c ≡ true
    go b =
        let one = ap (λ (M : Pages). M c) (held_then r b.ranking (has (take (suc f) st₀)) s b.stack t b.count (suc f) (b.runs f)) in
        let two = ap (λ (M : Pages). M c) (held_then r b.ranking (has (take (suc (suc f)) st₀)) s b.stack t b.count (suc (suc f)) (b.runs (suc f))) in
        elim (cases_Bool (has (take (suc (suc f)) b.stack) c)) [
          | inl e ↦ (two ∙ e)
          | inr e ↦ absurd (both_ways (has (take (suc f) b.stack) c) (has_before b.stack (suc f) (suc (suc f)) c (omega arith) e) (sym one ∙ m))
        ]

pub inclusion : Inclusion
inclusion r orders s all zero t c some h m = absurd (omega arith)
inclusion r orders s all (suc f) t c some h m = included r orders [] refl refl s all f t c h m

-- a place that faults in more frames faults in fewer
pub faults_fall : FaultsFall
faults_fall r orders s all f some =
    total_le (length s) _ _ (λ t l. fewer (held_on (own r (suc f)) s t (get_or s t 0)) (held_on (own r f) s t (get_or s t 0)) (λ m. inclusion r orders s all f t (get_or s t 0) some (omega arith) m))
  where
    fewer : (b a : Bool) → (a ≡ true → b ≡ true) → bit (not b) ≤ bit (not a)
    fewer true a h = omega arith
    fewer false true h = absurd (both_ways false refl (h refl))
    fewer false false h = omega arith
