-- The search for the next reference to a code. Assumes nothing.
use Rattle.std.proofs.Common.{◌≡◌, ℕ, suc, ◌+◌, ◌<◌, ◌≤◌, cond, eqb, ltb, ◌⊎◌, List, length, Some, None, refl, ap, inl, inr, arith}
use Rattle.std.specs.List.{position, position_or_len}
use Rattle.std.proofs.lemmas.List.Recursion.{is_position_or_len}
use Rattle.std.proofs.lemmas.Bool.{cases_lt}
use Rattle.std.proofs.lemmas.Bool.Decides.{nat_tests}
use Rattle.paging.specs.Schedules.{next}
use Rattle.paging.specs.Rankings.{capped, next_place}

next_is : (c : ℕ) (xs : List ℕ) → next xs c ≡ position_or_len (λ x. eqb x c) xs
unfolding next
next_is c xs = is_position_or_len (λ ys. next ys c) (λ x. eqb x c) refl (λ x ys. ap (λ n. cond (eqb x c) 0 n) (omega arith)) xs

module _ (p c : ℕ) (xs : List ℕ) where
  abbrev at : ℕ
  at = position_or_len (λ x. eqb x c) xs

  pub place_found : (k : ℕ) → position (λ x. eqb x c) xs ≡ Some k → next_place p c xs ≡ capped (p + (k + 1))
  place_found k e = rw (next_is c xs) (go (cases_lt at (length xs)) e)
    where
      go : (at < length xs) ⊎ (length xs ≤ at) → position (λ x. eqb x c) xs ≡ Some k → cond (ltb at (length xs)) (capped (p + suc at)) 0 ≡ capped (p + (k + 1))
      go (inl l) f = grind (arith, nat_tests)
      go (inr g) f = grind (arith, nat_tests)

  pub place_none : position (λ x. eqb x c) xs ≡ None → next_place p c xs ≡ 0
  place_none e = rw (next_is c xs) (go (cases_lt at (length xs)) e)
    where
      go : (at < length xs) ⊎ (length xs ≤ at) → position (λ x. eqb x c) xs ≡ None → cond (ltb at (length xs)) (capped (p + suc at)) 0 ≡ 0
      go (inl l) f = grind (arith, nat_tests)
      go (inr g) f = grind (arith, nat_tests)
