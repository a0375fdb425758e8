-- The letters of the policies. Assumes nothing.
use Rattle.std.specs.Prelude.{◌≡◌, ℕ, cond, Ok, Err, Result, ◌==◌}
use Rattle.paging.specs.declared.policy.Policy.{Policy}
use Rattle.paging.specs.declared.policy.Policy.TheVariants.{Lru, Min, Dpmin, Fifo}
use Rattle.paging.specs.declared.refusal.Refusal.{Refusal}
use Rattle.paging.specs.declared.refusal.Refusal.TheVariants.{UnknownLetter}

-- the policy of a letter: L, M, D or F
abbrev pub policy_of : ℕ → Result Policy Refusal
policy_of l =
    cond (l == 76) (Ok Lru) (cond (l == 77) (Ok Min) (cond (l == 68) (Ok Dpmin) (cond (l == 70) (Ok Fifo) (Err UnknownLetter))))

-- what is answered of a letter
abbrev pub IsOfLetter : ℕ → Result Policy Refusal → Type 0
IsOfLetter l r = r ≡ policy_of l
