-- A ranking's own run: its laws as a pager, and which page it releases. Assumes nothing.
use Rattle.std.proofs.Common.{◌≡◌, ℕ, zero, suc, ◌<◌, ◌≤◌, Bool, true, false, not, ◌||◌, eqb, ◌⊎◌, List, [], ◌∷◌, ◌++◌, length, get_or, take, drop, sym, refl, ap, ◌∙◌, subst, inl, inr, arith, drop-cons}
use Rattle.std.proofs.lemmas.Bool.{eq-eqb, eqb-true, le-leb, lt-leb, cases_Bool, cases_lt, both_ways, and_parts, or_cases}
use Rattle.paging.specs.Pages.{codes, Pages, nothing, size, with_page, without}
use Rattle.paging.specs.Schedules.{Holding}
use Rattle.paging.specs.Models.{Serve, Keeps, stepping, held_on}
use Rattle.paging.specs.Rankings.{RankingModel, OwnRun, admit, hindmost, told_of, told_all, tellings, capped, own_step, own_held, own_from, own}
use Rattle.paging.specs.Policies.{Demand, Behind}
use Rattle.paging.specs.Theorems.{OwnKeeps, OwnReleasesHindmost}
use Rattle.paging.proofs.Sets.{size_with, size_out}
use Rattle.paging.proofs.Hindmost.{hindmost_below, hindmost_held, hindmost_behind}
use Rattle.paging.proofs.Models.{states, states_more, held_stepping, stepping_keeps}

-- the three ways of a reference
pub admit_hit : (f z x : ℕ) (M : Pages) → M x ≡ true → admit f z x M ≡ M
admit_hit f z x M m = rw m

pub admit_room : (f z x : ℕ) (M : Pages) → M x ≡ false → size M < f → admit f z x M ≡ with_page x M
admit_room f z x M m few = rw (m, lt-leb f (size M) few)

pub admit_full : (f z x : ℕ) (M : Pages) → M x ≡ false → f ≤ size M → admit f z x M ≡ with_page x (without z M)
admit_full f z x M m many = rw (m, le-leb f (size M) many)

-- the page that is to go is held, where there are frames and all of them are full
pub hindmost_goes : (o : ℕ → ℕ → Bool) (f : ℕ) (M : Pages) → 1 ≤ f → f ≤ size M → M (hindmost o codes M) ≡ true
hindmost_goes o f M some many = hindmost_held o M (omega arith)

pub hindmost_low : (o : ℕ → ℕ → Bool) (M : Pages) → hindmost o codes M < codes
hindmost_low o M = hindmost_below o codes M (omega arith)

module _ (o : ℕ → ℕ → Bool) (f x : ℕ) (M : Pages) (some : 1 ≤ f) (small : size M ≤ f) where
  pub admit_serve : Serve f x M (admit f (hindmost o codes M) x M)
  admit_serve = go (cases_Bool (M x)) (cases_lt (size M) f)
    where
      go : (M x ≡ true) ⊎ (M x ≡ false) → (size M < f) ⊎ (f ≤ size M) → Serve f x M (admit f (hindmost o codes M) x M)
      go (inl m) _ =
          subst (λ (N : Pages). Serve f x M N) (sym (admit_hit f (hindmost o codes M) x M m))
          (record { first = m; within = small; only = λ _ c _ e. e })
      go (inr m) (inl few) =
          subst (λ (N : Pages). Serve f x M N) (sym (admit_room f (hindmost o codes M) x M m few))
          (record {
            first = rw (eq-eqb x x refl);
            within = omega (arith, size_with x M);
            only = λ h c _ _. absurd (both_ways (M x) m h);
          })
      go (inr m) (inr many) =
          subst (λ (N : Pages). Serve f x M N) (sym (admit_full f (hindmost o codes M) x M m many))
          (record {
            first = rw (eq-eqb x x refl);
            within = omega (
              arith,
              size_with x (without (hindmost o codes M) M),
              size_out (hindmost o codes M) M (hindmost_low o M) (hindmost_goes o f M some many),
            );
            only = λ h c _ _. absurd (both_ways (M x) m h);
          })

own_fits : (f : ℕ) (r : List ℕ) (q : OwnRun) → 1 ≤ f → size q.held ≤ f → size (own_step f r q).held ≤ f
own_fits f [] q some small = small
own_fits f (x ∷ xs) q some small =
    (admit_serve (told_of q.ranking (capped (suc q.count)) x xs []) f x q.held some small).within

-- a run that is about to start
abbrev pub starting : RankingModel → Pages → OwnRun
starting r B = record { ranking = r; count = 0; held = B }

-- a run keeps the laws of a pager from any state on
pub run_keeps : (f : ℕ) (q : OwnRun) → 1 ≤ f → f ≤ 64 → size q.held ≤ f → Keeps f (stepping (own_step f) own_held q)
run_keeps f q some most small =
    stepping_keeps (own_step f) own_held (λ p. size p.held ≤ f) (λ p u. own_fits f u p some) f some most (λ p. refl) (λ p i. i)
    (λ p x xs _ i. admit_serve (told_of p.ranking (capped (suc p.count)) x xs []) f x p.held some i)
    q small

pub own_keeps : OwnKeeps
own_keeps r f B some most small = run_keeps f (starting r B) some most small

-- what is held after a reference was held before, or is the page referenced
pub admit_from : (f z x : ℕ) (M : Pages) (c : ℕ) → admit f z x M c ≡ true → (x ≡ c) ⊎ (M c ≡ true)
admit_from f z x M c e = go (cases_Bool (M x)) (cases_lt (size M) f)
  where
    at : (N : Pages) → admit f z x M ≡ N → N c ≡ true
    at N q = subst (λ (P : Pages). P c ≡ true) q e

    fresh : (b : Bool) → eqb x c || b ≡ true → (b ≡ true → M c ≡ true) → (x ≡ c) ⊎ (M c ≡ true)
    fresh b h sub = pick (or_cases (eqb x c) b h)
      where
        pick : (eqb x c ≡ true) ⊎ (b ≡ true) → (x ≡ c) ⊎ (M c ≡ true)
        pick (inl q) = inl (eqb-true x c q)
        pick (inr q) = inr (sub q)

    go : (M x ≡ true) ⊎ (M x ≡ false) → (size M < f) ⊎ (f ≤ size M) → (x ≡ c) ⊎ (M c ≡ true)
    go (inl m) _ = inr (at M (admit_hit f z x M m))
    go (inr m) (inl few) = fresh (M c) (at (with_page x M) (admit_room f z x M m few)) (λ h. h)
    go (inr m) (inr many) =
        fresh (without z M c) (at (with_page x (without z M)) (admit_full f z x M m many)) (λ h. (and_parts (not (eqb z c)) (M c) h).1)

-- what admits each reference, by an order of its own at each place, pulls and releases one page at a time;
-- the page that goes is of the kind that the hindmost page is
pub admits_demand : (Goes : ℕ → ℕ → Type 0) (o : ℕ → ℕ → ℕ → Bool) (f : ℕ) (s : List ℕ) (H : Holding) → 1 ≤ f →
    ((t : ℕ) → t < length s → H (suc t) ≡ admit f (hindmost (o t) codes (H t)) (get_or s t 0) (H t)) →
    ((t : ℕ) → t < length s → H t (get_or s t 0) ≡ false → H t (hindmost (o t) codes (H t)) ≡ true → Goes t (hindmost (o t) codes (H t))) →
    Demand Goes f s H
admits_demand Goes o f s H some more goes =
    record {
      hit = λ t l h. more t l ∙ admit_hit f (hindmost (o t) codes (H t)) (get_or s t 0) (H t) h;
      room = λ t l m few. more t l ∙ admit_room f (hindmost (o t) codes (H t)) (get_or s t 0) (H t) m few;
      full = λ t l m many.
          record {
            out = hindmost (o t) codes (H t);
            low = hindmost_low (o t) (H t);
            held = hindmost_goes (o t) f (H t) some many;
            goes = goes t l m (hindmost_goes (o t) f (H t) some many);
            then = more t l ∙ admit_full f (hindmost (o t) codes (H t)) (get_or s t 0) (H t) m many;
          };
    }

-- the order by which a run from the state q releases at the reference number t
abbrev pub order_at : ℕ → OwnRun → List ℕ → ℕ → ℕ → ℕ → Bool
order_at f q s t =
    told_of (states (own_step f) q s t).ranking (capped (suc (states (own_step f) q s t).count)) (get_or s t 0) (drop (suc t) s) []

-- one place more in a run
pub own_more : (f : ℕ) (q : OwnRun) (s : List ℕ) (t : ℕ) → t < length s →
    states (own_step f) q s (suc t) ≡ own_step f (get_or s t 0 ∷ drop (suc t) s) (states (own_step f) q s t)
own_more f q s t l =
    states_more (own_step f) q s t l ∙ ap (λ (r : List ℕ). own_step f r (states (own_step f) q s t)) (drop-cons s t 0 l)

-- it is what the ranking says once told of the first suc t references
pub order_told : (f : ℕ) (q : OwnRun) (s : List ℕ) (t : ℕ) → t < length s →
    order_at f q s t ≡ told_all q.ranking (take (suc t) (tellings q.count s)) []
order_told f q [] t l = absurd (omega arith)
order_told f q (x ∷ xs) zero l = refl
order_told f q (x ∷ xs) (suc t) l = order_told f (own_step f (x ∷ xs) q) xs t (omega arith)

-- what a run holds after one place more
pub own_admits : (r : RankingModel) (f : ℕ) (B : Pages) (s : List ℕ) (t : ℕ) → t < length s →
    held_on (own_from r f B) s (suc t) ≡
    admit f (hindmost (order_at f (starting r B) s t) codes (held_on (own_from r f B) s t)) (get_or s t 0) (held_on (own_from r f B) s t)
own_admits r f B s t l =
    held_stepping (own_step f) own_held (starting r B) s (suc t) ∙ ap own_held (own_more f (starting r B) s t l) ∙
    sym (ap (λ (M : Pages). admit f (hindmost (order_at f (starting r B) s t) codes M) (get_or s t 0) M)
    (held_stepping (own_step f) own_held (starting r B) s t))

pub own_releases_hindmost : OwnReleasesHindmost
own_releases_hindmost r f s orders some =
    admits_demand (Behind o (held_on (own r f) s)) o f s (held_on (own r f) s) some
    (λ t l. subst (λ (w : ℕ → ℕ → Bool). held_on (own r f) s (suc t) ≡ admit f (hindmost w codes (held_on (own r f) s t)) (get_or s t 0) (held_on (own r f) s t))
    (order_told f (starting r nothing) s t l) (own_admits r f nothing s t l))
    (λ t _ _ _ c lc h ne. hindmost_behind (o t) (orders (take (suc t) (tellings 0 s) ++ [])) codes (held_on (own r f) s t) c (omega arith) lc h ne)
  where
    o : ℕ → ℕ → ℕ → Bool
    o t = told_all r (take (suc t) (tellings 0 s)) []
