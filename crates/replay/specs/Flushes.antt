-- The pager that flushes keeps the laws of a pager. Assumes nothing.
use Rattle.std.specs.Prelude.{◌≡◌, ℕ, ◌≤◌, true, false, ◌⊎◌, List, [], ◌∷◌, refl}
use Rattle.std.proofs.Common.{sym, subst, inl, inr, arith}
use Rattle.std.proofs.lemmas.Bool.{cases_Bool}
use Rattle.paging.specs.Pages.{Pages, nothing, size, with_page}
use Rattle.paging.specs.Models.{Serve, Keeps, stepping}
use Rattle.paging.specs.Policies.{itself}
use Rattle.paging.proofs.Models.{stepping_keeps}
use Rattle.paging.proofs.Sets.{size_nothing, size_with}
use Rattle.replay.specs.Flush.{flush_step}

pub flush_hit : (x : ℕ) (xs : List ℕ) (M : Pages) → M x ≡ true → flush_step (x ∷ xs) M ≡ M
flush_hit x xs M m = rw m

pub flush_fault : (x : ℕ) (xs : List ℕ) (M : Pages) → M x ≡ false → flush_step (x ∷ xs) M ≡ with_page x nothing
flush_fault x xs M m = rw m

pub alone_fits : (f x : ℕ) → 1 ≤ f → size (with_page x nothing) ≤ f
alone_fits f x some = omega (arith, size_with x nothing, size_nothing)

flush_serve : (f x : ℕ) (xs : List ℕ) (M : Pages) → 1 ≤ f → size M ≤ f → Serve f x M (flush_step (x ∷ xs) M)
flush_serve f x xs M some small = go (cases_Bool (M x))
  where
    go : (M x ≡ true) ⊎ (M x ≡ false) → Serve f x M (flush_step (x ∷ xs) M)
    go (inl m) =
        subst (λ (N : Pages). Serve f x M N) (sym (flush_hit x xs M m)) (record { first = m; within = small; only = λ _ c _ e. e })
    go (inr m) =
        subst (λ (N : Pages). Serve f x M N) (sym (flush_fault x xs M m))
        (record { first = grind arith; within = alone_fits f x some; only = λ h c _ _. absurd (grind arith) })

flush_fits : (f : ℕ) (M : Pages) (r : List ℕ) → 1 ≤ f → size M ≤ f → size (flush_step r M) ≤ f
flush_fits f M [] some small = small
flush_fits f M (x ∷ xs) some small = (flush_serve f x xs M some small).within

pub flush_keeps : (f : ℕ) (B : Pages) → 1 ≤ f → f ≤ 64 → size B ≤ f → Keeps f (stepping flush_step itself B)
flush_keeps f B some most small =
    stepping_keeps flush_step itself (λ M. size M ≤ f) (λ M r i. flush_fits f M r some i) f some most (λ M. refl) (λ M i. i)
    (λ M x xs _ i. flush_serve f x xs M some i) B small
