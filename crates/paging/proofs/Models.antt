-- Pagers over a string, place by place. Assumes nothing.
use Rattle.std.proofs.Common.{◌≡◌, ℕ, zero, suc, ◌<◌, ◌≤◌, List, [], ◌∷◌, ◌++◌, length, get_or, drop, sym, refl, ap, ◌∙◌, subst, arith, drop-cons}
use Rattle.paging.specs.Pages.{codes, Pages, size}
use Rattle.paging.specs.Schedules.{Coded, Schedule, Prepages}
use Rattle.paging.specs.Models.{PagerModel, served, Serve, Keeps, stepping, after, held_on}

-- one place more
pub after_more : (b : PagerModel) (s : List ℕ) (t : ℕ) → t < length s → after b s (suc t) ≡ served (after b s t) (drop t s)
after_more b [] t l = absurd (omega arith)
after_more b (x ∷ xs) zero l = refl
after_more b (x ∷ xs) (suc t) l = after_more (served b (x ∷ xs)) xs t (omega arith)

-- what is held at one place more
pub held_more : (b : PagerModel) (s : List ℕ) (t : ℕ) → t < length s → held_on b s (suc t) ≡ after b s t (drop t s ∷ [])
held_more b s t l = let F : PagerModel → Pages = λ m. m [] in ap F (after_more b s t l)

pub keeps_served : (f : ℕ) (b : PagerModel) (r : List ℕ) → Keeps f b → Keeps f (served b r)
keeps_served f b r k =
    record {
      some = k.some;
      most = k.most;
      within = λ rs. k.within (r ∷ rs);
      still = λ rs us. k.still (r ∷ rs) us;
      serves = λ rs x xs l. k.serves (r ∷ rs) x xs l;
    }

pub keeps_after : (f : ℕ) (b : PagerModel) (s : List ℕ) (t : ℕ) → Keeps f b → Keeps f (after b s t)
keeps_after f b s zero k = k
keeps_after f b [] (suc t) k = k
keeps_after f b (x ∷ xs) (suc t) k = keeps_after f (served b (x ∷ xs)) xs t (keeps_served f b (x ∷ xs) k)

-- the state of a stepping pager after the first t places
abbrev pub states : {S : Type 0} → (List ℕ → S → S) → S → List ℕ → ℕ → S
states step q s zero = q
states step q [] (suc t) = q
states step q (x ∷ xs) (suc t) = states step (step (x ∷ xs) q) xs t

pub states_more : {S : Type 0} (step : List ℕ → S → S) (q : S) (s : List ℕ) (t : ℕ) → t < length s →
    states step q s (suc t) ≡ step (drop t s) (states step q s t)
states_more step q [] t l = absurd (omega arith)
states_more step q (x ∷ xs) zero l = refl
states_more step q (x ∷ xs) (suc t) l = states_more step (step (x ∷ xs) q) xs t (omega arith)

pub after_stepping : {S : Type 0} (step : List ℕ → S → S) (held : S → Pages) (q : S) (s : List ℕ) (t : ℕ) →
    after (stepping step held q) s t ≡ stepping step held (states step q s t)
after_stepping step held q s zero = refl
after_stepping step held q [] (suc t) = refl
after_stepping step held q (x ∷ xs) (suc t) = after_stepping step held (step (x ∷ xs) q) xs t

-- what a stepping pager holds at a place is what its state there holds
pub held_stepping : {S : Type 0} (step : List ℕ → S → S) (held : S → Pages) (q : S) (s : List ℕ) (t : ℕ) →
    held_on (stepping step held q) s t ≡ held (states step q s t)
held_stepping step held q s t =
    let F : PagerModel → Pages = λ m. m [] in ap F (after_stepping step held q s t)

-- the state after any rows
abbrev pub steps : {S : Type 0} → (List ℕ → S → S) → S → List (List ℕ) → S
steps step q [] = q
steps step q (r ∷ rs) = steps step (step r q) rs

module _ {S : Type 0} (step : List ℕ → S → S) (held : S → Pages) where
  pub stepping_is : (q : S) (rs : List (List ℕ)) → stepping step held q rs ≡ held (steps step q rs)
  stepping_is q [] = refl
  stepping_is q (r ∷ rs) = stepping_is (step r q) rs

  pub stepping_push : (q : S) (rs : List (List ℕ)) (r : List ℕ) → stepping step held q (rs ++ r ∷ []) ≡ held (step r (steps step q rs))
  stepping_push q [] r = refl
  stepping_push q (u ∷ us) r = stepping_push (step u q) us r

  still_steps : ((q : S) → step [] q ≡ q) → (q : S) (rs us : List (List ℕ)) → stepping step held q (rs ++ [] ∷ us) ≡ stepping step held q (rs ++ us)
  still_steps e q [] us = let F : S → Pages = λ p. stepping step held p us in ap F (e q)
  still_steps e q (r ∷ rs) us = still_steps e (step r q) rs us

  -- the laws of a stepping pager, from an invariant of its states
  module _ (Inv : S → Type 0) (keep : (q : S) (r : List ℕ) → Inv q → Inv (step r q)) where
    pub steps_keep : (q : S) (rs : List (List ℕ)) → Inv q → Inv (steps step q rs)
    steps_keep q [] i = i
    steps_keep q (r ∷ rs) i = steps_keep (step r q) rs (keep q r i)

    pub stepping_keeps : (f : ℕ) → 1 ≤ f → f ≤ 64 → ((q : S) → step [] q ≡ q) → ((q : S) → Inv q → size (held q) ≤ f) →
        ((q : S) (x : ℕ) (xs : List ℕ) → x < codes → Inv q → Serve f x (held q) (held (step (x ∷ xs) q))) →
        (q : S) → Inv q → Keeps f (stepping step held q)
    stepping_keeps f some most e fits serve q i =
        record {
          some = some;
          most = most;
          within = λ rs. subst (λ (N : Pages). size N ≤ f) (sym (stepping_is q rs)) (fits (steps step q rs) (steps_keep q rs i));
          still = λ rs us. still_steps e q rs us;
          serves = λ rs x xs l.
              subst (λ (M : Pages). Serve f x M (stepping step held q (rs ++ (x ∷ xs) ∷ []))) (sym (stepping_is q rs))
              (subst (λ (N : Pages). Serve f x (held (steps step q rs)) N) (sym (stepping_push q rs (x ∷ xs)))
              (serve (steps step q rs) x xs l (steps_keep q rs i)));
        }

-- one serve on the way through a string
pub serve_at : (f : ℕ) (b : PagerModel) (s : List ℕ) → Coded s → Keeps f b → (t : ℕ) → t < length s →
    Serve f (get_or s t 0) (held_on b s t) (held_on b s (suc t))
serve_at f b s coded k t l =
    subst (λ (N : Pages). Serve f (get_or s t 0) (held_on b s t) N)
    (ap (λ (r : List ℕ). after b s t (r ∷ [])) (sym (drop-cons s t 0 l)) ∙ sym (held_more b s t l))
    ((keeps_after f b s t k).serves [] (get_or s t 0) (drop (suc t) s) (coded t l))

-- a pager that keeps its laws makes a schedule, and pulls only at its fault instants
pub pager_schedules : (f : ℕ) (b : PagerModel) (s : List ℕ) → Coded s → Keeps f b →
    Schedule f (b []) s (held_on b s) × Prepages s (held_on b s)
pager_schedules f b s coded k = (
  record {
    starts = λ c _. refl;
    fits = λ t _. (keeps_after f b s t k).within [];
    serves = λ t l. (serve_at f b s coded k t l).first;
  },
  λ t l h c lc e. (serve_at f b s coded k t l).only h c lc e,
)
