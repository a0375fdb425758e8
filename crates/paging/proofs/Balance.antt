-- Pulls and releases, and what is held. Assumes nothing.
use Rattle.std.proofs.Common.{◌≡◌, ℕ, zero, suc, ◌+◌, Bool, not, ◌&&◌, arith}
use Rattle.paging.specs.Pages.{bit, codes, Pages, size}
use Rattle.paging.specs.Schedules.{Holding, pulled, pulls, releases}
use Rattle.paging.proofs.Sums.{total-eq₂, total_none, total_suc}

-- a change of a set: what it pulls and what was there is what it releases and what is there
pub pulled_balance : (M N : Pages) → pulled M N + size M ≡ pulled N M + size N
pulled_balance M N =
    total-eq₂ codes (λ c. bit (N c && not (M c))) (λ c. bit (M c)) (λ c. bit (M c && not (N c))) (λ c. bit (N c)) (λ c _. each (M c) (N c))
  where
    each : (m n : Bool) → bit (n && not m) + bit m ≡ bit (m && not n) + bit n
    each m n = grind arith

-- over the first p places
pub pulls_balance : (H : Holding) (p : ℕ) → pulls H p + size (H 0) ≡ releases H p + size (H p)
pulls_balance H zero = omega (arith, total_none (λ t. pulled (H t) (H (suc t))), total_none (λ t. pulled (H (suc t)) (H t)))
pulls_balance H (suc p) =
    omega (
      arith,
      pulls_balance H p,
      pulled_balance (H p) (H (suc p)),
      total_suc p (λ t. pulled (H t) (H (suc t))),
      total_suc p (λ t. pulled (H (suc t)) (H t)),
    )
