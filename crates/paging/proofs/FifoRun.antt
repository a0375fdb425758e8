-- FIFO's run: its queue stands by the places of the pulls, so the page that goes was pulled longest ago. Assumes nothing.
use Rattle.std.proofs.Common.{◌≡◌, ℕ, zero, suc, ◌<◌, ◌≤◌, Bool, true, false, cond, not, ◌&&◌, ◌||◌, eqb, ltb, leb, ◌⊎◌, List, [], ◌∷◌, ◌++◌, length, get_or, drop, sym, refl, ap, ◌∙◌, subst, inl, inr, arith, drop-cons}
use mathlib.Core.Path.{fun_ext}
use Rattle.std.proofs.lemmas.Bool.{eq-eqb, ne_eqb, eqb-true, ltb-true, le-leb, lt-leb, cases_eq, cases_Bool, and_parts, or_cases, not-true, both_ways}
use Rattle.paging.specs.Pages.{codes, Pages, size, with_page, without, has}
use Rattle.paging.specs.Schedules.{Coded, Holding, pull_place}
use Rattle.paging.specs.Models.{held_on}
use Rattle.paging.specs.Policies.{fifo_step, fifo, Replaces, Demand, LongestHeld}
use Rattle.paging.specs.Queues.{once, coded}
use Rattle.paging.specs.Theorems.{FifoReleasesLongestHeld}
use Rattle.paging.proofs.Queues.{has_push, size_once, once_in, coded_in, fifo_in, fifo_hit, fifo_miss, fifo_in_has}
use Rattle.paging.proofs.Models.{states, states_more, held_stepping}

-- the keys rise along the list
abbrev Rising : (ℕ → ℕ) → List ℕ → Type 0
Rising k [] = 0 ≤ 0
Rising k (x ∷ q) = ((c : ℕ) → has q c ≡ true → k x < k c) × Rising k q

rising_rest : (k : ℕ → ℕ) (q : List ℕ) → Rising k q → Rising k (drop 1 q)
rising_rest k [] r = r
rising_rest k (x ∷ q) r = r.1

rising_same : (k h : ℕ → ℕ) (q : List ℕ) → ((c : ℕ) → has q c ≡ true → h c ≡ k c) → Rising k q → Rising h q
rising_same k h [] e r = r
rising_same k h (x ∷ q) e r = (
  λ c m. omega (arith, r.0 c m, e x (rw (eq-eqb x x refl)), e c (rw m (right (eqb x c)))),
  rising_same k h q (λ c m. e c (rw m (right (eqb x c)))) r.1,
)
  where
    right : (b : Bool) → (b || true) ≡ true
    right true = refl
    right false = refl

rising_push : (k : ℕ → ℕ) (q : List ℕ) (x : ℕ) → ((c : ℕ) → has q c ≡ true → k c < k x) → Rising k q → Rising k (q ++ x ∷ [])
rising_push k [] x above r = (λ c m. absurd (both_ways false refl m), r)
rising_push k (y ∷ q) x above r = (
  λ c m. pick c (or_cases (eqb x c) (has q c) (sym (ap (λ (N : Pages). N c) (has_push q x)) ∙ m)),
  rising_push k q x (λ c m. above c (rw m (right (eqb y c)))) r.1,
)
  where
    right : (b : Bool) → (b || true) ≡ true
    right true = refl
    right false = refl

    pick : (c : ℕ) → (eqb x c ≡ true) ⊎ (has q c ≡ true) → k y < k c
    pick c (inl e) = let same : x ≡ c = eqb-true x c e in rw (← same) (above y (rw (eq-eqb y y refl)))
    pick c (inr m) = r.0 c m

-- the places of pulls
pull_place_le : (H : Holding) (t c : ℕ) → pull_place H t c ≤ t
unfolding pull_place
pull_place_le H zero c = omega arith
pull_place_le H (suc t) c = go (H (suc t) c && not (H t c)) (pull_place_le H t c)
  where
    go : (b : Bool) → pull_place H t c ≤ t → cond b (suc t) (pull_place H t c) ≤ suc t
    go true r = omega arith
    go false r = omega arith

pull_place_new : (H : Holding) (t c : ℕ) → H (suc t) c ≡ true → H t c ≡ false → pull_place H (suc t) c ≡ suc t
unfolding pull_place
pull_place_new H t c a b = rw (a, b)

pull_place_old : (H : Holding) (t c : ℕ) → H t c ≡ true → pull_place H (suc t) c ≡ pull_place H t c
unfolding pull_place
pull_place_old H t c b = rw b (but (H (suc t) c))
  where
    but : (a : Bool) → cond (a && false) (suc t) (pull_place H t c) ≡ pull_place H t c
    but true = refl
    but false = refl

module _ (f : ℕ) (s : List ℕ) (code : Coded s) where
  abbrev H : Holding
  H = held_on (fifo f []) s

  abbrev queue_at : ℕ → List ℕ
  queue_at t = states (fifo_step f) [] s t

  holds : (t : ℕ) → H t ≡ has (queue_at t)
  holds t = held_stepping (fifo_step f) has [] s t

  more : (t : ℕ) → t < length s → queue_at (suc t) ≡ fifo_step f (get_or s t 0 ∷ drop (suc t) s) (queue_at t)
  more t l = states_more (fifo_step f) [] s t l ∙ ap (λ (r : List ℕ). fifo_step f r (queue_at t)) (drop-cons s t 0 l)

  hit_on : (t : ℕ) → t < length s → has (queue_at t) (get_or s t 0) ≡ true → queue_at (suc t) ≡ queue_at t
  hit_on t l h = more t l ∙ fifo_hit f (get_or s t 0) (drop (suc t) s) (queue_at t) h

  miss_on : (t : ℕ) → t < length s → has (queue_at t) (get_or s t 0) ≡ false → queue_at (suc t) ≡ fifo_in f (get_or s t 0) (queue_at t)
  miss_on t l h = more t l ∙ fifo_miss f (get_or s t 0) (drop (suc t) s) (queue_at t) h

  -- the queue at a place
  record Sound (t : ℕ) (q : List ℕ) : Type 0 where
    pub apart : once q ≡ true
    pub low : coded q ≡ true
    pub rising : Rising (pull_place H t) q

  sound_hit : (t : ℕ) → t < length s → has (queue_at t) (get_or s t 0) ≡ true → Sound t (queue_at t) → Sound (suc t) (queue_at (suc t))
  sound_hit t l h so =
      subst (λ (q : List ℕ). Sound (suc t) q) (sym (hit_on t l h))
      (record {
        apart = so.apart;
        low = so.low;
        rising = rising_same (pull_place H t) (pull_place H (suc t)) (queue_at t) (λ c m. pull_place_old H t c (ap (λ (N : Pages). N c) (holds t) ∙ m)) so.rising;
      })

  -- what stays of the queue at a fault
  abbrev left : ℕ → List ℕ
  left t = cond (leb f (length (queue_at t))) (drop 1 (queue_at t)) (queue_at t)

  sound_miss : (t : ℕ) → t < length s → has (queue_at t) (get_or s t 0) ≡ false → Sound t (queue_at t) → Sound (suc t) (queue_at (suc t))
  sound_miss t l h so =
      subst (λ (q : List ℕ). Sound (suc t) q) (sym (miss_on t l h))
      (record {
        apart = once_in f (get_or s t 0) (queue_at t) so.apart h;
        low = coded_in f (get_or s t 0) (queue_at t) so.low (code t l);
        rising = rising_push (pull_place H (suc t)) (left t) (get_or s t 0)
            (λ c m. omega (arith, last, old c m, pull_place_le H t c))
            (rising_same (pull_place H t) (pull_place H (suc t)) (left t) old rises);
      })
    where
      old : (c : ℕ) → has (left t) c ≡ true → pull_place H (suc t) c ≡ pull_place H t c
      old c m = pull_place_old H t c (ap (λ (N : Pages). N c) (holds t) ∙ fifo_in_has f (get_or s t 0) (queue_at t) c m)

      rises : Rising (pull_place H t) (left t)
      rises = go (cases_Bool (leb f (length (queue_at t))))
        where
          go : (leb f (length (queue_at t)) ≡ true) ⊎ (leb f (length (queue_at t)) ≡ false) →
              Rising (pull_place H t) (cond (leb f (length (queue_at t))) (drop 1 (queue_at t)) (queue_at t))
          go (inl e) = rw e (rising_rest (pull_place H t) (queue_at t) so.rising)
          go (inr e) = rw e so.rising

      last : pull_place H (suc t) (get_or s t 0) ≡ suc t
      last =
          pull_place_new H t (get_or s t 0)
          (ap (λ (N : Pages). N (get_or s t 0)) (holds (suc t) ∙ ap has (miss_on t l h) ∙ has_push (left t) (get_or s t 0)) ∙ rw (eq-eqb (get_or s t 0) (get_or s t 0) refl))
          (ap (λ (N : Pages). N (get_or s t 0)) (holds t) ∙ h)

  sound : (t : ℕ) → t ≤ length s → Sound t (queue_at t)
  sound zero l = record { apart = refl; low = refl; rising = omega arith }
  sound (suc t) l = go (cases_Bool (has (queue_at t) (get_or s t 0))) (sound t (omega arith))
    where
      go : (has (queue_at t) (get_or s t 0) ≡ true) ⊎ (has (queue_at t) (get_or s t 0) ≡ false) → Sound t (queue_at t) → Sound (suc t) (queue_at (suc t))
      go (inl h) so = sound_hit t l h so
      go (inr h) so = sound_miss t l h so

  long : (t : ℕ) → t ≤ length s → size (H t) ≡ length (queue_at t)
  long t l = ap size (holds t) ∙ size_once (queue_at t) (sound t l).apart (sound t l).low

  -- the first of the queue goes
  full_at : 1 ≤ f → (t : ℕ) → t < length s → has (queue_at t) (get_or s t 0) ≡ false → f ≤ length (queue_at t) → (q : List ℕ) → queue_at t ≡ q →
      Replaces (LongestHeld s H t) (get_or s t 0) (H t) (H (suc t))
  full_at some t l miss many [] e = absurd (omega (arith, ap length e))
  full_at some t l miss many (z ∷ q) e =
      record {
        out = z;
        low = ltb-true z codes (and_parts (ltb z codes) (coded q) so.low).0;
        held = ap (λ (N : Pages). N z) is ∙ rw (eq-eqb z z refl);
        goes = λ c lc h ne. so.rising.0 c (other c (ap (λ (N : Pages). N c) (sym is) ∙ h) ne);
        then =
            holds (suc t) ∙ ap has (miss_on t l miss ∙ full) ∙ has_push q (get_or s t 0) ∙
            ap (with_page (get_or s t 0)) (sym (gone ∙ refl)) ∙ ap (λ (N : Pages). with_page (get_or s t 0) (without z N)) (sym is);
      }
    where
      so : Sound t (z ∷ q)
      so = subst (λ (p : List ℕ). Sound t p) e (sound t (omega arith))

      is : H t ≡ has (z ∷ q)
      is = holds t ∙ ap has e

      full : fifo_in f (get_or s t 0) (queue_at t) ≡ q ++ get_or s t 0 ∷ []
      full =
          let F : List ℕ → List ℕ = λ p. drop 1 p ++ get_or s t 0 ∷ [] in
          rw (le-leb f (length (queue_at t)) many) (ap F e)

      other : (c : ℕ) → has (z ∷ q) c ≡ true → (c ≡ z → ⊥) → has q c ≡ true
      other c h ne = pick (or_cases (eqb z c) (has q c) h)
        where
          pick : (eqb z c ≡ true) ⊎ (has q c ≡ true) → has q c ≡ true
          pick (inl m) = absurd (ne (sym (eqb-true z c m)))
          pick (inr m) = m

      gone : without z (has (z ∷ q)) ≡ has q
      gone = fun_ext (λ c. each c (cases_eq z c))
        where
          each : (c : ℕ) → (z ≡ c) ⊎ (z ≡ c → ⊥) → (not (eqb z c) && (eqb z c || has q c)) ≡ has q c
          each c (inl m) =
              let away : has q c ≡ false = rw m at (not-true (has q z) (and_parts (not (has q z)) (once q) so.apart).0) in
              rw (eq-eqb z c m, away)
          each c (inr ne) = rw (ne_eqb z c ne)

  demands : 1 ≤ f → Demand (LongestHeld s H) f s H
  demands some =
      record {
        hit = λ t l h. holds (suc t) ∙ ap has (hit_on t l (sym (ap (λ (N : Pages). N (get_or s t 0)) (holds t)) ∙ h)) ∙ sym (holds t);
        room = λ t l h few. free t l (sym (ap (λ (N : Pages). N (get_or s t 0)) (holds t)) ∙ h) (omega (arith, long t (omega arith)));
        full = λ t l h many. full_at some t l (sym (ap (λ (N : Pages). N (get_or s t 0)) (holds t)) ∙ h) (omega (arith, long t (omega arith))) (queue_at t) refl;
      }
    where
      free : (t : ℕ) → t < length s → has (queue_at t) (get_or s t 0) ≡ false → length (queue_at t) < f → H (suc t) ≡ with_page (get_or s t 0) (H t)
      free t l miss few =
          let e : fifo_in f (get_or s t 0) (queue_at t) ≡ queue_at t ++ get_or s t 0 ∷ [] = rw (lt-leb f (length (queue_at t)) few) in
          holds (suc t) ∙ ap has (miss_on t l miss ∙ e) ∙ has_push (queue_at t) (get_or s t 0) ∙ ap (with_page (get_or s t 0)) (sym (holds t))

pub fifo_releases_longest_held : FifoReleasesLongestHeld
fifo_releases_longest_held f s code some = demands f s code some
