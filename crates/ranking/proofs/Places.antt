-- The places of next references, scanned backwards. Assumes nothing.
use Rattle.std.proofs.Common.{◌≡◌, ℕ, suc, ◌+◌, ◌<◌, ◌≤◌, cond, ltb, ◌⊎◌, List, [], length, get_or, drop, set, replicate, sym, ◌∙◌, inl, inr, arith, drop-cons}
use native.Mathlib.Nat.{min-eq_right}
use Rattle.std.proofs.lemmas.Bool.Decides.{nat_tests}
use Rattle.std.proofs.lemmas.List.{drop_all, get_or-set_same, get_or-set_other, get_or-replicate}
use Rattle.std.proofs.lemmas.Bool.{cases_eq, lt-ltb, le-ltb}
use Rattle.paging.specs.Pages.{codes}
use Rattle.paging.specs.Schedules.{next}
use Rattle.paging.specs.Rankings.{capped, next_place}
use Rattle.paging.proofs.Next.{next_at, next_other}
use Rattle.ranking.specs.Places.{NextPlaces}

-- places of a string stay far below the limit
pub capped_is : (n : ℕ) → n ≤ 65535 → capped n ≡ n
capped_is n l = min-eq_right l

-- p has, for each code, the place of its first reference from the number t on, or 0 for none
abbrev pub Nearest : List ℕ → ℕ → List ℕ → Type 0
Nearest s t p = (c : ℕ) → c < codes → get_or p c 0 ≡ next_place t c (drop t s)

place_none : (s : List ℕ) (t c : ℕ) → length s ≤ t → next_place t c (drop t s) ≡ 0
place_none s t c l = rw (drop_all t s l) (none (next [] c))
  where
    none : (n : ℕ) → cond (ltb n 0) (capped (t + suc n)) 0 ≡ 0
    none n = rw (le-ltb n 0 (omega arith))

place_here : (s : List ℕ) (u c : ℕ) → u < length s → u < 65535 → get_or s u 0 ≡ c → next_place u c (drop u s) ≡ suc u
place_here s u c l small e =
    rw (drop-cons s u 0 l, next_at (get_or s u 0) (drop (suc u) s) c e) (first (length (drop (suc u) s)))
  where
    first : (m : ℕ) → cond (ltb 0 (suc m)) (capped (u + 1)) 0 ≡ suc u
    first m = rw (lt-ltb 0 (suc m) (omega arith)) (capped_is (u + 1) (omega arith) ∙ omega arith)

place_other : (s : List ℕ) (u c : ℕ) → u < length s → (get_or s u 0 ≡ c → ⊥) → next_place u c (drop u s) ≡ next_place (suc u) c (drop (suc u) s)
place_other s u c l ne =
    rw (drop-cons s u 0 l, next_other (get_or s u 0) (drop (suc u) s) c ne) (moved (next (drop (suc u) s) c) (length (drop (suc u) s)))
  where
    moved : (n m : ℕ) → cond (ltb (suc n) (suc m)) (capped (u + suc (suc n))) 0 ≡ cond (ltb n m) (capped (suc u + suc n)) 0
    moved n m = let e : u + suc (suc n) ≡ suc u + suc n = omega arith in rw e (grind (arith, nat_tests))

pub nearest_end : (s : List ℕ) (n : ℕ) → n ≡ length s → Nearest s n (replicate 256 0)
nearest_end s n e c l = get_or-replicate 256 c 0 0 l ∙ sym (place_none s n c (omega arith))

pub next_places_end : (s a : List ℕ) (n : ℕ) → n ≡ length s → NextPlaces s n a
next_places_end s a n e j l m = absurd (omega arith)

nearest_back : (s p : List ℕ) (u : ℕ) → u < length s → length s ≤ 4096 → length p ≡ 256 → Nearest s (suc u) p → Nearest s u (set p (get_or s u 0) (suc u))
nearest_back s p u l few wide at c lc = go (cases_eq (get_or s u 0) c)
  where
    go : (get_or s u 0 ≡ c) ⊎ (get_or s u 0 ≡ c → ⊥) → get_or (set p (get_or s u 0) (suc u)) c 0 ≡ next_place u c (drop u s)
    go (inl e) = rw (place_here s u c l (omega arith) e, e) (get_or-set_same p c (suc u) 0 (omega arith))
    go (inr ne) = get_or-set_other p (get_or s u 0) c (suc u) 0 (λ q. ne (sym q)) ∙ at c lc ∙ sym (place_other s u c l ne)

next_places_back : (s p a : List ℕ) (u : ℕ) → u < length s → length s ≤ length a → get_or s u 0 < codes → Nearest s (suc u) p → NextPlaces s (suc u) a →
    NextPlaces s u (set a u (get_or p (get_or s u 0) 0))
next_places_back s p a u l room small at rest j lo hi = go (cases_eq j u)
  where
    go : (j ≡ u) ⊎ (j ≡ u → ⊥) → get_or (set a u (get_or p (get_or s u 0) 0)) j 0 ≡ next_place (suc j) (get_or s j 0) (drop (suc j) s)
    go (inl e) = rw (e, get_or-set_same a u (get_or p (get_or s u 0) 0) 0 (omega arith)) (at (get_or s u 0) small)
    go (inr ne) = get_or-set_other a u j (get_or p (get_or s u 0) 0) 0 ne ∙ rest j (omega arith) hi

-- the step back from t to u
pub step_back : (s p a : List ℕ) (t u x : ℕ) → t ≡ suc u → t ≤ length s → length s ≤ 4096 → length p ≡ 256 → length s ≤ length a → x < codes → x ≡ get_or s u 0 →
    Nearest s t p → NextPlaces s t a → Nearest s u (set p x t) × NextPlaces s u (set a u (get_or p x 0))
step_back s p a t u x e l few wide room small ex at rest =
    rw (ex, e) (
      nearest_back s p u (omega arith) few wide (rw e at at),
      next_places_back s p a u (omega arith) room (omega arith) (rw e at at) (rw e at rest),
    )
