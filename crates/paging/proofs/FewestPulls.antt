-- MIN pulls least: up to every place, no schedule has pulled less. Assumes nothing.
use Rattle.std.proofs.Common.{◌≡◌, ℕ, zero, suc, ◌+◌, ◌<◌, ◌≤◌, true, false, not, ◌&&◌, eqb, ltb, ◌⊎◌, List, ◌∷◌, length, get_or, drop, refl, inl, inr, arith, drop-cons}
use Rattle.std.proofs.lemmas.Bool.Decides.{nat_tests}
use Rattle.std.proofs.lemmas.Bool.{eq-eqb, lt-ltb, le-ltb, cases_eq, cases_Bool, cases_lt, and_parts, and_right}
use Rattle.paging.specs.Pages.{bit, codes, Pages, size, with_page, without}
use Rattle.paging.specs.Schedules.{Coded, next, Holding, ScheduleTo, pulled, pulls}
use Rattle.paging.specs.Policies.{Demand, Furthest}
use Rattle.paging.specs.Theorems.{MinPullsLeast}
use Rattle.paging.proofs.Sums.{total_le, total_zero, total_none, total_suc, member}
use Rattle.paging.proofs.Sets.{none_pulled, one_pulled}
use Rattle.paging.proofs.Next.{next_here, next_other}
use Rattle.paging.proofs.Near.{near, near_pulled, near_none, near_size, near_all, near_on, near_with, near_without}

-- the invariant: at every threshold, the first schedule's pulls a and what the second holds below it are at most the second's pulls b
-- and what the first holds below it
abbrev Trails : (ℕ → ℕ) → Pages → Pages → ℕ → ℕ → Type 0
Trails k M H a b = (θ : ℕ) → near k H θ + a ≤ near k M θ + b

-- at a fault of the first, the second's pulls are ahead, or it pulls the page too
slack : (x : ℕ) (xs : List ℕ) (M H H' : Pages) (a b : ℕ) → x < codes → M x ≡ false → H' x ≡ true →
    Trails (next (x ∷ xs)) M H a b → a + 1 ≤ pulled H H' + b
slack x xs M H H' a b l miss has inv = go (cases_Bool (H x))
  where
    none : (c : ℕ) → (x ≡ c) ⊎ (x ≡ c → ⊥) → bit (M c && ltb (next (x ∷ xs) c) 1) ≡ 0
    none c (inl e) = rw (← e, miss)
    none c (inr ne) = rw (next_other x xs c ne) (grind (arith, nat_tests))

    go : (H x ≡ true) ⊎ (H x ≡ false) → a + 1 ≤ pulled H H' + b
    go (inl e) =
        omega (
          arith,
          inv 1,
          total_zero codes (λ c. bit (M c && ltb (next (x ∷ xs) c) 1)) (λ c _. none c (cases_eq x c)),
          member codes x (λ c. H c && ltb (next (x ∷ xs) c) 1) l (rw (e, next_here)),
        )
    go (inr e) =
        omega (
          arith,
          inv 0,
          near_none (next (x ∷ xs)) M,
          near_none (next (x ∷ xs)) H,
          member codes x (λ c. H' c && not (H c)) l (rw (e, has)),
        )

-- the place moves on, with the page at hand in both sets
trails_on : (x : ℕ) (xs : List ℕ) (M H : Pages) (a b : ℕ) → x < codes → M x ≡ true → H x ≡ true →
    ((θ : ℕ) → near (next (x ∷ xs)) H (suc θ) + a ≤ near (next (x ∷ xs)) M (suc θ) + b) → Trails (next xs) M H a b
trails_on x xs M H a b l m h inv θ = omega (arith, near_on x xs M θ l m, near_on x xs H θ l h, inv θ)

module _ (f x : ℕ) (xs : List ℕ) (M H H' : Pages) (a b : ℕ) (l : x < codes) (has : H' x ≡ true) (fits : size H' ≤ f)
    (inv : Trails (next (x ∷ xs)) M H a b) where
  hit : M x ≡ true → Trails (next xs) M H' (pulled M M + a) (pulled H H' + b)
  hit m =
      trails_on x xs M H' (pulled M M + a) (pulled H H' + b) l m has
      (λ θ. omega (arith, none_pulled M, near_pulled (next (x ∷ xs)) H H' (suc θ), inv (suc θ)))

  room : M x ≡ false → Trails (next xs) (with_page x M) H' (pulled M (with_page x M) + a) (pulled H H' + b)
  room m =
      trails_on x xs (with_page x M) H' (pulled M (with_page x M) + a) (pulled H H' + b) l (rw (eq-eqb x x refl)) has
      (λ θ. omega (
        arith,
        one_pulled x M M l m (λ c e. e),
        near_pulled (next (x ∷ xs)) H H' (suc θ),
        inv (suc θ),
        near_with (next (x ∷ xs)) x M (suc θ) l m (omega (arith, next_here x xs)),
      ))

  module _ (m : M x ≡ false) (full : f ≤ size M) (z : ℕ) (far : (c : ℕ) → c < codes → M c ≡ true → next (x ∷ xs) c ≤ next (x ∷ xs) z) where
    full_at : (θ : ℕ) → near (next (x ∷ xs)) H' (suc θ) + (pulled M (with_page x (without z M)) + a) ≤ near (next (x ∷ xs)) (with_page x (without z M)) (suc θ) + (pulled H H' + b)
    full_at θ = go (cases_lt (next (x ∷ xs) z) (suc θ))
      where
        one : pulled M (with_page x (without z M)) ≡ 1
        one = one_pulled x M (without z M) l m (λ c e. (and_parts (not (eqb z c)) (M c) e).1)

        more : near (next (x ∷ xs)) (without z M) (suc θ) + 1 ≤ near (next (x ∷ xs)) (with_page x (without z M)) (suc θ)
        more = near_with (next (x ∷ xs)) x (without z M) (suc θ) l (and_right (not (eqb z x)) (M x) m) (omega (arith, next_here x xs))

        go : (next (x ∷ xs) z < suc θ) ⊎ (suc θ ≤ next (x ∷ xs) z) →
            near (next (x ∷ xs)) H' (suc θ) + (pulled M (with_page x (without z M)) + a) ≤ near (next (x ∷ xs)) (with_page x (without z M)) (suc θ) + (pulled H H' + b)
        go (inl low) =
            let whole : size M ≤ near (next (x ∷ xs)) M (suc θ) = near_all (next (x ∷ xs)) M (suc θ) (λ c lc e. omega (arith, far c lc e)) in
            let few : near (next (x ∷ xs)) H' (suc θ) ≤ size H' = near_size (next (x ∷ xs)) H' (suc θ) in
            let less : near (next (x ∷ xs)) M (suc θ) ≤ near (next (x ∷ xs)) (without z M) (suc θ) + 1 =
            rw (lt-ltb (next (x ∷ xs) z) (suc θ) low) at (near_without (next (x ∷ xs)) z M (suc θ)) in
            omega (arith, one, more, slack x xs M H H' a b l m has inv)
        go (inr high) =
            let less : near (next (x ∷ xs)) M (suc θ) ≤ near (next (x ∷ xs)) (without z M) (suc θ) + 0 =
            rw (le-ltb (next (x ∷ xs) z) (suc θ) high) at (near_without (next (x ∷ xs)) z M (suc θ)) in
            omega (arith, one, more, near_pulled (next (x ∷ xs)) H H' (suc θ), inv (suc θ))

    filled : Trails (next xs) (with_page x (without z M)) H' (pulled M (with_page x (without z M)) + a) (pulled H H' + b)
    filled =
        trails_on x xs (with_page x (without z M)) H' (pulled M (with_page x (without z M)) + a) (pulled H H' + b) l
        (rw (eq-eqb x x refl)) has full_at

-- the same for what is left of a string, as it is written there; the first goes from M to N
module _ (f x : ℕ) (xs ys : List ℕ) (M N H H' : Pages) (a b : ℕ) (e : ys ≡ x ∷ xs) (l : x < codes) (has : H' x ≡ true) (fits : size H' ≤ f)
    (inv : Trails (next ys) M H a b) where
  at_hit : M x ≡ true → N ≡ M → Trails (next xs) N H' (pulled M N + a) (pulled H H' + b)
  at_hit m q = rw q (hit f x xs M H H' a b l has fits (rw e at inv) m)

  at_room : M x ≡ false → N ≡ with_page x M → Trails (next xs) N H' (pulled M N + a) (pulled H H' + b)
  at_room m q = rw q (room f x xs M H H' a b l has fits (rw e at inv) m)

  at_full : M x ≡ false → f ≤ size M → (z : ℕ) → ((c : ℕ) → c < codes → M c ≡ true → next ys c ≤ next ys z) →
      N ≡ with_page x (without z M) → Trails (next xs) N H' (pulled M N + a) (pulled H H' + b)
  at_full m full z far q = rw q (filled f x xs M H H' a b l has fits (rw e at inv) m full z (rw e at far))

module _ (f : ℕ) (B : Pages) (s : List ℕ) (K H : Holding) (p : ℕ) (coded : Coded s) (min : Demand (Furthest s K) f s K)
    (starts : (c : ℕ) → c < codes → K 0 c ≡ B c) (short : p ≤ length s) (sched : ScheduleTo p f B s H) where
  trails : (t : ℕ) → t ≤ p → Trails (next (drop t s)) (K t) (H t) (pulls K t) (pulls H t)
  trails zero l = λ θ.
      omega (
        arith,
        total_none (λ t. pulled (K t) (K (suc t))),
        total_none (λ t. pulled (H t) (H (suc t))),
        total_le codes (λ c. bit (H 0 c && ltb (next s c) θ)) (λ c. bit (K 0 c && ltb (next s c) θ))
            (λ c lc. rw (sched.starts c lc, starts c lc) (omega arith)),
      )
  trails (suc t) l =
      rw (total_suc t (λ t. pulled (K t) (K (suc t))), total_suc t (λ t. pulled (H t) (H (suc t))))
      (go (cases_Bool (K t x)) (cases_lt (size (K t)) f) (trails t (omega arith)))
    where
      x : ℕ
      x = get_or s t 0

      lt : t < length s
      lt = omega arith

      go : (K t x ≡ true) ⊎ (K t x ≡ false) → (size (K t) < f) ⊎ (f ≤ size (K t)) → Trails (next (drop t s)) (K t) (H t) (pulls K t) (pulls H t) →
          Trails (next (drop (suc t) s)) (K (suc t)) (H (suc t)) (pulled (K t) (K (suc t)) + pulls K t) (pulled (H t) (H (suc t)) + pulls H t)
      go (inl m) _ inv =
          at_hit f x (drop (suc t) s) (drop t s) (K t) (K (suc t)) (H t) (H (suc t)) (pulls K t) (pulls H t)
          (drop-cons s t 0 lt) (coded t lt) (sched.serves t l) (sched.fits (suc t) l) inv m (min.hit t lt m)
      go (inr m) (inl few) inv =
          at_room f x (drop (suc t) s) (drop t s) (K t) (K (suc t)) (H t) (H (suc t)) (pulls K t) (pulls H t)
          (drop-cons s t 0 lt) (coded t lt) (sched.serves t l) (sched.fits (suc t) l) inv m (min.room t lt m few)
      go (inr m) (inr many) inv =
          let r = min.full t lt m many in
          at_full f x (drop (suc t) s) (drop t s) (K t) (K (suc t)) (H t) (H (suc t)) (pulls K t) (pulls H t)
          (drop-cons s t 0 lt) (coded t lt) (sched.serves t l) (sched.fits (suc t) l) inv m many r.out
          (λ c lc h. (r.goes c lc h).0) r.then

pub min_pulls_least : MinPullsLeast
min_pulls_least f B s K H p coded min starts short sched =
    omega (arith, trails f B s K H p coded min starts short sched p (omega arith) 0, near_none (next (drop p s)) (K p), near_none (next (drop p s)) (H p))
