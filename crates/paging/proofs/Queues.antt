-- Lists of pages, and FIFO's queue of them. Assumes nothing.
use Rattle.std.proofs.Common.{◌≡◌, ℕ, ◌<◌, ◌≤◌, Bool, true, false, cond, not, ◌||◌, eqb, ltb, leb, ◌⊎◌, List, [], ◌∷◌, ◌++◌, length, drop, sym, refl, ap, ◌∙◌, inl, inr, arith, length-append, length-drop}
use mathlib.Core.Path.{fun_ext}
use Rattle.std.proofs.lemmas.Bool.{eq-eqb, ne_eqb, lt-ltb, ltb-true, le-leb, lt-leb, cases_eq, cases_Bool, cases_lt, and_parts, and_from, or_parts, or_from, not-true, not_from_false, both_ways}
use Rattle.paging.specs.Pages.{codes, Pages, size, with_page, has}
use Rattle.paging.specs.Schedules.{pulled}
use Rattle.paging.specs.Models.{Serve, Keeps}
use Rattle.paging.specs.Policies.{fifo_step, fifo}
use Rattle.paging.specs.Queues.{once, coded}
use Rattle.paging.proofs.Sets.{size_in, one_pulled}
use Rattle.paging.proofs.Sets.{size_nothing, size_with}
use Rattle.paging.proofs.Models.{stepping_keeps}

pub has_append : (a b : List ℕ) (c : ℕ) → has (a ++ b) c ≡ (has a c || has b c)
has_append [] b c = refl
has_append (x ∷ a) b c = rw (has_append a b c) (assoc (eqb x c) (has a c) (has b c))
  where
    assoc : (p q r : Bool) → (p || (q || r)) ≡ ((p || q) || r)
    assoc true q r = refl
    assoc false q r = refl

-- the order of two parts is nothing to the set
pub has_turned : (a b : List ℕ) → has (b ++ a) ≡ has (a ++ b)
has_turned a b = fun_ext (λ c. has_append b a c ∙ swap (has b c) (has a c) ∙ sym (has_append a b c))
  where
    swap : (p q : Bool) → (p || q) ≡ (q || p)
    swap true true = refl
    swap true false = refl
    swap false true = refl
    swap false false = refl

pub has_push : (q : List ℕ) (x : ℕ) → has (q ++ x ∷ []) ≡ with_page x (has q)
has_push q x = fun_ext (λ c. has_append q (x ∷ []) c ∙ swap (has q c) (eqb x c))
  where
    swap : (p q : Bool) → (p || (q || false)) ≡ (q || p)
    swap true true = refl
    swap true false = refl
    swap false true = refl
    swap false false = refl

pub has_rest : (q : List ℕ) (c : ℕ) → has (drop 1 q) c ≡ true → has q c ≡ true
has_rest [] c h = h
has_rest (x ∷ q) c h = rw h (right (eqb x c))
  where
    right : (b : Bool) → (b || true) ≡ true
    right true = refl
    right false = refl

-- how many pages a list names
pub size_has : (q : List ℕ) → size (has q) ≤ length q
size_has [] = omega (arith, size_nothing)
size_has (x ∷ q) = omega (arith, size_with x (has q), size_has q)

pub size_once : (q : List ℕ) → once q ≡ true → coded q ≡ true → size (has q) ≡ length q
size_once [] o l = size_nothing
size_once (x ∷ q) o l =
    let p = and_parts (not (has q x)) (once q) o in
    let r = and_parts (ltb x codes) (coded q) l in
    omega (arith, size_in x (has q) (ltb-true x codes r.0) (not-true (has q x) p.0), size_once q p.1 r.1)

pub once_push : (q : List ℕ) (x : ℕ) → once q ≡ true → has q x ≡ false → once (q ++ x ∷ []) ≡ true
once_push [] x o e = refl
once_push (y ∷ q) x o e =
    let p = or_parts (eqb y x) (has q x) e in
    let r = and_parts (not (has q y)) (once q) o in
    and_from _ _
    (not_from_false _ (has_append q (x ∷ []) y ∙ or_from _ _ (not-true (has q y) r.0) (or_from _ _ (flip (cases_eq x y) p.0) refl)))
    (once_push q x r.1 p.1)
  where
    flip : (x ≡ y) ⊎ (x ≡ y → ⊥) → eqb y x ≡ false → eqb x y ≡ false
    flip (inl q) apart = absurd (both_ways (eqb y x) apart (eq-eqb y x (sym q)))
    flip (inr ne) _ = ne_eqb x y ne

pub once_rest : (q : List ℕ) → once q ≡ true → once (drop 1 q) ≡ true
once_rest [] o = o
once_rest (x ∷ q) o = (and_parts (not (has q x)) (once q) o).1

pub coded_push : (q : List ℕ) (x : ℕ) → coded q ≡ true → x < codes → coded (q ++ x ∷ []) ≡ true
coded_push [] x o l = and_from _ _ (lt-ltb x codes l) refl
coded_push (y ∷ q) x o l = let r = and_parts (ltb y codes) (coded q) o in and_from _ _ r.0 (coded_push q x r.1 l)

pub coded_rest : (q : List ℕ) → coded q ≡ true → coded (drop 1 q) ≡ true
coded_rest [] o = o
coded_rest (x ∷ q) o = (and_parts (ltb x codes) (coded q) o).1

-- the queue after a fault
abbrev pub fifo_in : ℕ → ℕ → List ℕ → List ℕ
fifo_in f x q = cond (leb f (length q)) (drop 1 q) q ++ x ∷ []

pub fifo_hit : (f x : ℕ) (xs q : List ℕ) → has q x ≡ true → fifo_step f (x ∷ xs) q ≡ q
fifo_hit f x xs q h = rw h

pub fifo_miss : (f x : ℕ) (xs q : List ℕ) → has q x ≡ false → fifo_step f (x ∷ xs) q ≡ fifo_in f x q
fifo_miss f x xs q h = rw h

fifo_in_few : (f x : ℕ) (q : List ℕ) → 1 ≤ f → length q ≤ f → length (fifo_in f x q) ≤ f
fifo_in_few f x q some few = go (cases_lt (length q) f)
  where
    go : (length q < f) ⊎ (f ≤ length q) → length (fifo_in f x q) ≤ f
    go (inl l) = rw (lt-leb f (length q) l) (simp length-append (omega arith))
    go (inr g) = rw (le-leb f (length q) g) (simp (length-append, length-drop) (omega arith))

-- only x comes
pub fifo_in_has : (f x : ℕ) (q : List ℕ) (c : ℕ) → has (cond (leb f (length q)) (drop 1 q) q) c ≡ true → has q c ≡ true
fifo_in_has f x q c = go (cases_Bool (leb f (length q)))
  where
    go : (leb f (length q) ≡ true) ⊎ (leb f (length q) ≡ false) → has (cond (leb f (length q)) (drop 1 q) q) c ≡ true → has q c ≡ true
    go (inl e) = rw e (has_rest q c)
    go (inr e) = rw e (λ h. h)

pub fifo_in_pulled : (f x : ℕ) (q : List ℕ) → x < codes → has q x ≡ false → pulled (has q) (has (fifo_in f x q)) ≡ 1
fifo_in_pulled f x q l out =
    ap (pulled (has q)) (has_push (cond (leb f (length q)) (drop 1 q) q) x) ∙
    one_pulled x (has q) (has (cond (leb f (length q)) (drop 1 q) q)) l out (fifo_in_has f x q)

-- FIFO keeps the laws of a pager
module _ (f : ℕ) (some : 1 ≤ f) (most : f ≤ 64) where
  keep : (q r : List ℕ) → length q ≤ f → length (fifo_step f r q) ≤ f
  keep q [] few = few
  keep q (x ∷ xs) few = go (cases_Bool (has q x))
    where
      go : (has q x ≡ true) ⊎ (has q x ≡ false) → length (fifo_step f (x ∷ xs) q) ≤ f
      go (inl h) = rw h few
      go (inr h) = rw h (fifo_in_few f x q some few)

  serve : (q : List ℕ) (x : ℕ) (xs : List ℕ) → x < codes → length q ≤ f → Serve f x (has q) (has (fifo_step f (x ∷ xs) q))
  serve q x xs l few = go (cases_Bool (has q x))
    where
      here : (b : Bool) → eqb x x ≡ true → (eqb x x || b) ≡ true
      here b e = rw e

      go : (has q x ≡ true) ⊎ (has q x ≡ false) → Serve f x (has q) (has (fifo_step f (x ∷ xs) q))
      go (inl h) = rw h (record { first = h; within = omega (arith, size_has q); only = λ _ c _ e. e })
      go (inr h) =
          rw h (
          record {
            first = ap (λ (N : Pages). N x) (has_push (cond (leb f (length q)) (drop 1 q) q) x) ∙ here (has (cond (leb f (length q)) (drop 1 q) q) x) (eq-eqb x x refl);
            within = omega (arith, size_has (fifo_in f x q), fifo_in_few f x q some few);
            only = λ yes c _ e. absurd (both_ways (has q x) h yes);
          })

  pub fifo_keeps : (q : List ℕ) → length q ≤ f → Keeps f (fifo f q)
  fifo_keeps q few =
      stepping_keeps (fifo_step f) has (λ p. length p ≤ f) keep f some most (λ p. refl) (λ p i. omega (arith, size_has p)) serve q few

-- no page stands twice
pub once_in : (f x : ℕ) (q : List ℕ) → once q ≡ true → has q x ≡ false → once (fifo_in f x q) ≡ true
once_in f x q o out = go (cases_Bool (leb f (length q)))
  where
    less : has (drop 1 q) x ≡ false
    less = but (cases_Bool (has (drop 1 q) x))
      where
        but : (has (drop 1 q) x ≡ true) ⊎ (has (drop 1 q) x ≡ false) → has (drop 1 q) x ≡ false
        but (inl h) = absurd (both_ways (has q x) out (has_rest q x h))
        but (inr h) = h

    go : (leb f (length q) ≡ true) ⊎ (leb f (length q) ≡ false) → once (fifo_in f x q) ≡ true
    go (inl e) = rw e (once_push (drop 1 q) x (once_rest q o) less)
    go (inr e) = rw e (once_push q x o out)

pub coded_in : (f x : ℕ) (q : List ℕ) → coded q ≡ true → x < codes → coded (fifo_in f x q) ≡ true
coded_in f x q o l = go (cases_Bool (leb f (length q)))
  where
    go : (leb f (length q) ≡ true) ⊎ (leb f (length q) ≡ false) → coded (fifo_in f x q) ≡ true
    go (inl e) = rw e (coded_push (drop 1 q) x (coded_rest q o) l)
    go (inr e) = rw e (coded_push q x o l)
