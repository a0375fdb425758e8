-- One place of a run, by the pager before it and after. Assumes nothing.
use Rattle.std.proofs.Common.{◌≡◌, ℕ, suc, ◌+◌, ◌-◌, ◌<◌, ◌≤◌, not, ◌&&◌, List, [], length, get_or, take, drop, sym, ap, ◌∙◌, add-one, arith}
use Rattle.std.proofs.lemmas.List.{take_rest}
use Rattle.paging.specs.Pages.{bit, total, Pages}
use Rattle.paging.specs.Schedules.{pulled, pulls, faults}
use Rattle.paging.specs.Models.{PagerModel, served, after, held_on}
use Rattle.paging.proofs.Sums.{total_suc}
use Rattle.paging.proofs.Sets.{total_most}
use Rattle.paging.proofs.Models.{after_more}

pub pulled_most : (M N : Pages) → pulled M N ≤ 256
pulled_most M N = total_most 256 (λ c. N c && not (M c))

pub total_more : (t : ℕ) (g : ℕ → ℕ) → total (t + 1) g ≡ g t + total t g
total_more t g = rw add-one (total_suc t g)

module _ (b m m' : PagerModel) (s : List ℕ) (t : ℕ) (here : t < length s) (at : m ≡ after b s t)
    (moves : m' ≡ served m (take (length s - t) (drop t s))) where
  pub after_step : m' ≡ after b s (t + 1)
  after_step =
      moves ∙ ap (served m) (take_rest s t) ∙ ap (λ (k : PagerModel). served k (drop t s)) at ∙
      sym (rw add-one (after_more b s t here))

  held_before : m [] ≡ held_on b s t
  held_before = let F : PagerModel → Pages = λ k. k [] in ap F at

  held_after : m' [] ≡ held_on b s (suc t)
  held_after = let F : PagerModel → Pages = λ k. k [] in ap F (rw add-one at after_step)

  pub pulls_step : pulls (held_on b s) (t + 1) ≡ pulls (held_on b s) t + pulled (m []) (m' [])
  pulls_step =
      let e : pulled (m []) (m' []) ≡ pulled (held_on b s t) (held_on b s (suc t)) = rw (held_before, held_after) in
      omega (arith, total_more t (λ k. pulled (held_on b s k) (held_on b s (suc k))))

  pub faults_step : faults s (held_on b s) (t + 1) ≡ faults s (held_on b s) t + bit (not (m [] (get_or s t 0)))
  faults_step =
      let e : bit (not (m [] (get_or s t 0))) ≡ bit (not (held_on b s t (get_or s t 0))) = rw held_before in
      omega (arith, total_more t (λ k. bit (not (held_on b s k (get_or s k 0)))))

-- the pages below n of N that M has not
abbrev pub fresh : Pages → Pages → ℕ → ℕ
fresh M N n = total n (λ c. bit (N c && not (M c)))
