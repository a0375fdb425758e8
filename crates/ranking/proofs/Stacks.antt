-- The first f pages of the stack are what f frames hold. Assumes nothing.
use Rattle.std.proofs.Common.{◌≡◌, ℕ, zero, suc, ◌+◌, ◌<◌, ◌≤◌, Bool, true, false, cond, not, ◌&&◌, ◌||◌, eqb, ltb, ◌⊎◌, List, [], ◌∷◌, ◌++◌, length, take, sym, refl, ap, ◌∙◌, subst, inl, inr, arith, length-take}
use mathlib.Core.Path.{fun_ext}
use lib.Seq.{take-nil}
use Rattle.std.proofs.lemmas.List.{take-take, take_all, take_at, length_push}
use Rattle.std.proofs.lemmas.Bool.{cases_Bool, cases_eq, cases_lt, and_right, lt-ltb, ltb-true, ne_eqb, eqb-true, or_parts, or_from, or_right, or_left, or_cases, and_parts, and_from, not_from_false, not_from_true, not-true, both_ways}
use Rattle.paging.specs.Pages.{codes, Pages, size, with_page, without, has}
use Rattle.paging.specs.Rankings.{Order, hindmost, admit}
use Rattle.paging.specs.Queues.{once, coded}
use Rattle.paging.proofs.Queues.{size_once}
use Rattle.paging.proofs.OwnRuns.{admit_hit, admit_room, admit_full}
use Rattle.paging.proofs.Hindmost.{hindmost_only}
use Rattle.ranking.specs.Stack.{sift, restacked}
use Rattle.ranking.proofs.Lists.{eqb_self, eqb_flip, coded_has, once_take, coded_take, has_front}

-- what is in a sifted list
keep : (a b m : Bool) → (m ≡ true → b ≡ false) → (a || m) ≡ (a || ((b || m) && not b))
keep true b m h = refl
keep false b true h = rw (h refl)
keep false true false h = refl
keep false false false h = refl

carry_on : (a m k : Bool) → (a ≡ true → k ≡ true) → (a || (m && k)) ≡ ((a || m) && k)
carry_on true m k h = sym (h refl)
carry_on false m k h = refl

pass_on : (a b m n : Bool) → (a ≡ true → n ≡ true) → (a || (b || (m && n))) ≡ (b || ((a || m) && n))
pass_on true true m n h = refl
pass_on true false m n h = rw (h refl)
pass_on false b m n h = refl

module _ (o : ℕ → ℕ → Bool) (p : ℕ) where
  pub has_sift : (d c : ℕ) (xs : List ℕ) → once xs ≡ true → eqb c p ≡ false → has (sift o p c xs) d ≡ (eqb c d || (has xs d && not (eqb p d)))
  has_sift d c [] a n = refl
  has_sift d c (x ∷ xs) a n =
      let q = and_parts (not (has xs x)) (once xs) a in
      elim (cases_Bool (eqb x p)) [
        | inl t ↦
            (let e = eqb-true x p t in
            let out : has xs p ≡ false = subst (λ (y : ℕ). has xs y ≡ false) e (not-true _ q.0) in
            rw (t, e) (keep (eqb c d) (eqb p d) (has xs d) (λ m. ne_eqb p d (λ h. both_ways (has xs p) out (subst (λ (y : ℕ). has xs y ≡ true) (sym h) m)))))
        | inr t ↦
            (let other : eqb x d ≡ true → not (eqb p d) ≡ true = λ e. not_from_false _ (subst (λ (y : ℕ). eqb p y ≡ false) (eqb-true x d e) (eqb_flip p x ∙ t)) in
            elim (cases_Bool (o c x)) [
              | inl u ↦ (rw (t, u, has_sift d x xs q.1 t) (ap (λ (z : Bool). eqb c d || z) (carry_on (eqb x d) (has xs d) (not (eqb p d)) other)))
              | inr u ↦ (rw (t, u, has_sift d c xs q.1 n) (pass_on (eqb x d) (eqb c d) (has xs d) (not (eqb p d)) other))
            ])
      ]

  pub once_sift : (c : ℕ) (xs : List ℕ) → once (c ∷ xs) ≡ true → eqb c p ≡ false → once (sift o p c xs) ≡ true
  once_sift c [] a n = refl
  once_sift c (x ∷ xs) a n =
      let q = and_parts (not (has (x ∷ xs) c)) (once (x ∷ xs)) a in
      let r = and_parts (not (has xs x)) (once xs) q.1 in
      let s = or_parts (eqb x c) (has xs c) (not-true _ q.0) in
      elim (cases_Bool (eqb x p)) [
        | inl t ↦ (rw t (and_from _ _ (not_from_false _ s.1) r.1))
        | inr t ↦
            (elim (cases_Bool (o c x)) [
              | inl u ↦ (rw (t, u) (and_from _ _ (not_from_false _ (has_sift c x xs r.1 t ∙ rw (s.0, s.1))) (once_sift x xs q.1 t)))
              | inr u ↦ (rw (t, u) (and_from _ _ (not_from_false _ (has_sift x c xs r.1 n ∙ rw (eqb_flip c x ∙ s.0, not-true _ r.0))) (once_sift c xs (and_from _ _ (not_from_false _ s.1) r.1) n)))
            ])
      ]

  pub coded_sift : (c : ℕ) (xs : List ℕ) → coded (c ∷ xs) ≡ true → coded (sift o p c xs) ≡ true
  coded_sift c [] l = l
  coded_sift c (x ∷ xs) l =
      let q = and_parts (ltb c codes) (coded (x ∷ xs)) l in
      let r = and_parts (ltb x codes) (coded xs) q.1 in
      elim (cases_Bool (eqb x p)) [
        | inl t ↦ (rw t (and_from _ _ q.0 r.1))
        | inr t ↦
            (elim (cases_Bool (o c x)) [
              | inl u ↦ (rw (t, u) (and_from _ _ q.0 (coded_sift x xs q.1)))
              | inr u ↦ (rw (t, u) (and_from _ _ r.0 (coded_sift c xs (and_from _ _ q.0 r.1))))
            ])
      ]

  -- the first k pages come from the first k
  pub take_sift : (k c : ℕ) (xs : List ℕ) → take k (sift o p c xs) ≡ take k (sift o p c (take k xs))
  take_sift zero c xs = refl
  take_sift (suc k) c [] = refl
  take_sift (suc k) c (x ∷ xs) =
      elim (cases_Bool (eqb x p)) [
        | inl t ↦ (rw t (ap (λ (ys : List ℕ). c ∷ ys) (sym (take-take k k xs (omega arith)))))
        | inr t ↦
            (elim (cases_Bool (o c x)) [
              | inl u ↦ (rw (t, u) (ap (λ (ys : List ℕ). c ∷ ys) (take_sift k x xs)))
              | inr u ↦ (rw (t, u) (ap (λ (ys : List ℕ). x ∷ ys) (take_sift k c xs)))
            ])
      ]

  pub length_sift : (c : ℕ) (xs : List ℕ) → has xs p ≡ true → length (sift o p c xs) ≡ length xs
  length_sift c [] m = absurd (both_ways false refl m)
  length_sift c (x ∷ xs) m =
      elim (cases_Bool (eqb x p)) [
        | inl t ↦ (rw t)
        | inr t ↦
            (let below : has xs p ≡ true = elim (or_cases (eqb x p) (has xs p) m) [ inl e ↦ absurd (both_ways (eqb x p) t e) | inr k ↦ k ] in
            elim (cases_Bool (o c x)) [
              | inl u ↦ (rw (t, u) (ap suc (length_sift x xs below)))
              | inr u ↦ (rw (t, u) (ap suc (length_sift c xs below)))
            ])
      ]

-- of x and the others, the page that is behind all the rest
abbrev behind : (ℕ → ℕ → Bool) → ℕ → List ℕ → ℕ
behind o x [] = x
behind o x (y ∷ ys) = behind o (cond (o x y) y x) ys

-- and those that are not
abbrev front : (ℕ → ℕ → Bool) → ℕ → List ℕ → List ℕ
front o c [] = []
front o c (x ∷ xs) = cond (o c x) c x ∷ front o (cond (o c x) x c) xs

-- where p is not there, the page behind all others goes last
sift_front : (o : ℕ → ℕ → Bool) (p c : ℕ) (xs : List ℕ) → has xs p ≡ false → sift o p c xs ≡ front o c xs ++ behind o c xs ∷ []
sift_front o p c [] m = refl
sift_front o p c (x ∷ xs) m =
    let q = or_parts (eqb x p) (has xs p) m in
    let t = q.0 in
    elim (cases_Bool (o c x)) [
      | inl u ↦ (rw (t, u) (ap (λ (ys : List ℕ). c ∷ ys) (sift_front o p x xs q.1)))
      | inr u ↦ (rw (t, u) (ap (λ (ys : List ℕ). x ∷ ys) (sift_front o p c xs q.1)))
    ]

length_front : (o : ℕ → ℕ → Bool) (c : ℕ) (xs : List ℕ) → length (front o c xs) ≡ length xs
length_front o c [] = refl
length_front o c (x ∷ xs) = ap suc (length_front o (cond (o c x) x c) xs)

-- the page behind all others
module _ (o : ℕ → ℕ → Bool) (order : Order o) where
  behind_has : (x : ℕ) (xs : List ℕ) → has (x ∷ xs) (behind o x xs) ≡ true
  behind_has x [] = or_left _ _ (eqb_self x)
  behind_has x (y ∷ ys) =
      elim (cases_Bool (o x y)) [
        | inl u ↦
            (let e : behind o x (y ∷ ys) ≡ behind o y ys = rw u in
            subst (λ (w : ℕ). has (x ∷ y ∷ ys) w ≡ true) (sym e) (or_right (eqb x (behind o y ys)) _ (behind_has y ys)))
        | inr u ↦
            (let e : behind o x (y ∷ ys) ≡ behind o x ys = rw u in
            subst (λ (w : ℕ). has (x ∷ y ∷ ys) w ≡ true) (sym e)
            (elim (or_cases (eqb x (behind o x ys)) (has ys (behind o x ys)) (behind_has x ys)) [
              | inl e ↦ or_left _ _ e
              | inr e ↦ or_right (eqb x (behind o x ys)) _ (or_right (eqb y (behind o x ys)) _ e)
            ]))
      ]

  lift : (d v w : ℕ) → d < codes → v < codes → w < codes → (v ≡ w) ⊎ (o v w ≡ true) → o d v ≡ true → (d ≡ w) ⊎ (o d w ≡ true)
  lift d v w a b c (inl e) h = inr (subst (λ (z : ℕ). o d z ≡ true) e h)
  lift d v w a b c (inr k) h = inr (order.chain d v w a b c h k)

  -- each other page is ahead of it
  behind_all : (x : ℕ) (xs : List ℕ) (d : ℕ) → coded (x ∷ xs) ≡ true → has (x ∷ xs) d ≡ true → (d ≡ behind o x xs) ⊎ (o d (behind o x xs) ≡ true)
  behind_all x [] d l m = inl (elim (or_cases (eqb x d) false m) [ inl e ↦ sym (eqb-true x d e) | inr e ↦ absurd (both_ways false refl e) ])
  behind_all x (y ∷ ys) d l m =
      let q = and_parts (ltb x codes) (coded (y ∷ ys)) l in
      let r = and_parts (ltb y codes) (coded ys) q.1 in
      let x< = ltb-true x codes q.0 in
      let y< = ltb-true y codes r.0 in
      let xl : coded (x ∷ ys) ≡ true = and_from _ _ q.0 r.1 in
      elim (cases_Bool (o x y)) [
        | inl u ↦
            (let e : behind o x (y ∷ ys) ≡ behind o y ys = rw u in
            subst (λ (w : ℕ). (d ≡ w) ⊎ (o d w ≡ true)) (sym e)
            (elim (or_cases (eqb x d) (has (y ∷ ys) d) m) [
              | inl h ↦
                  (subst (λ (z : ℕ). (z ≡ behind o y ys) ⊎ (o z (behind o y ys) ≡ true)) (eqb-true x d h)
                  (lift x y (behind o y ys) x< y< (coded_has _ (y ∷ ys) q.1 (behind_has y ys)) (behind_all y ys y q.1 (or_left _ _ (eqb_self y))) u))
              | inr h ↦ behind_all y ys d q.1 h
            ]))
        | inr u ↦
            (let e : behind o x (y ∷ ys) ≡ behind o x ys = rw u in
            let top = behind_all x ys x xl (or_left _ _ (eqb_self x)) in
            subst (λ (w : ℕ). (d ≡ w) ⊎ (o d w ≡ true)) (sym e)
            (elim (or_cases (eqb x d) (has (y ∷ ys) d) m) [
              | inl h ↦ subst (λ (z : ℕ). (z ≡ behind o x ys) ⊎ (o z (behind o x ys) ≡ true)) (eqb-true x d h) top
              | inr h ↦
                  (elim (or_cases (eqb y d) (has ys d) h) [
                    | inl k ↦
                        (subst (λ (z : ℕ). (z ≡ behind o x ys) ⊎ (o z (behind o x ys) ≡ true)) (eqb-true y d k)
                        (elim (cases_eq x y) [
                          | inl s ↦ subst (λ (z : ℕ). (z ≡ behind o x ys) ⊎ (o z (behind o x ys) ≡ true)) s top
                          | inr n ↦ lift y x (behind o x ys) y< x< (coded_has _ (x ∷ ys) xl (behind_has x ys)) top (order.one x y x< y< n ∙ not_from_false _ u)
                        ]))
                    | inr k ↦ behind_all x ys d xl (or_right (eqb x d) _ k)
                  ])
            ]))
      ]

  -- it is the page that goes
  hindmost_behind : (x : ℕ) (xs : List ℕ) → coded (x ∷ xs) ≡ true → hindmost o codes (has (x ∷ xs)) ≡ behind o x xs
  hindmost_behind x xs l =
      hindmost_only o order (has (x ∷ xs)) (behind o x xs) (coded_has _ (x ∷ xs) l (behind_has x xs)) (behind_has x xs)
      (λ c _ h ne. elim (behind_all x xs c l h) [ inl e ↦ absurd (ne e) | inr k ↦ k ])

hit : (a b m : Bool) → (a ≡ true → m ≡ true) → (b || m) ≡ (a || (b || (m && not a)))
hit true true m h = refl
hit true false m h = h refl
hit false true m h = refl
hit false false true h = refl
hit false false false h = refl

miss : (a b m : Bool) → (a || (b || m)) ≡ (a || (b || (m && not a)))
miss true b m = refl
miss false true m = refl
miss false false true = refl
miss false false false = refl

swept : (a b m n : Bool) → (a || (n && (b || m))) ≡ (a || (n && (b || (m && not a))))
swept true b m n = refl
swept false b true n = refl
swept false b false n = refl

-- the set that f frames hold after a reference to c, where before it is that of the stack's first f pages
abbrev pub next_held : (ℕ → ℕ → Bool) → ℕ → ℕ → List ℕ → Pages
next_held o f c st = admit f (hindmost o codes (has (take f st))) c (has (take f st))

module _ (o : ℕ → ℕ → Bool) (order : Order o) (k c : ℕ) where
  none : next_held o (suc k) c [] ≡ has (take (suc k) (c ∷ []))
  none =
      let z : size (has []) ≡ 0 = size_once [] refl refl in
      admit_room (suc k) _ c (has []) refl (omega arith) ∙ ap (λ (zs : List ℕ). has (c ∷ zs)) (sym (take-nil k))

  module _ (x : ℕ) (xs : List ℕ) (a : once (x ∷ xs) ≡ true) (l : coded (x ∷ xs) ≡ true) where
    few : length (take k xs) ≤ k
    few = omega (arith, length-take k xs)

    xya : once (x ∷ take k xs) ≡ true
    xya = once_take (suc k) (x ∷ xs) a

    xyl : coded (x ∷ take k xs) ≡ true
    xyl = coded_take (suc k) (x ∷ xs) l

    many : size (has (x ∷ take k xs)) ≡ suc (length (take k xs))
    many = size_once (x ∷ take k xs) xya xyl

    at_top : eqb x c ≡ true → next_held o (suc k) c (x ∷ xs) ≡ has (take (suc k) (restacked o c (x ∷ xs)))
    at_top t =
        let e = eqb-true x c t in
        let u : restacked o c (x ∷ xs) ≡ x ∷ xs = rw t (ap (λ (z : ℕ). z ∷ xs) (sym e)) in
        admit_hit (suc k) _ c (has (x ∷ take k xs)) (or_left (eqb x c) (has (take k xs) c) t) ∙ ap (λ (zs : List ℕ). has (take (suc k) zs)) (sym u)

    -- x is carried down
    module _ (t : eqb x c ≡ false) where
      down : take (suc k) (restacked o c (x ∷ xs)) ≡ c ∷ take k (sift o c x (take k xs))
      down = rw t (ap (λ (zs : List ℕ). c ∷ zs) (take_sift o c k x xs))

      ya : once (take k xs) ≡ true
      ya = once_take k xs (and_parts (not (has xs x)) (once xs) a).1

      in_sift : (d : ℕ) → has (sift o c x (take k xs)) d ≡ (eqb x d || (has (take k xs) d && not (eqb c d)))
      in_sift d = has_sift o c d x (take k xs) ya t

      -- all that was sifted is among the first
      whole : length (sift o c x (take k xs)) ≤ k → (d : ℕ) →
          (eqb c d || (eqb x d || (has (take k xs) d && not (eqb c d)))) ≡ has (take (suc k) (restacked o c (x ∷ xs))) d
      whole h d =
          ap (λ (z : Bool). eqb c d || z) (sym (in_sift d)) ∙
          ap (λ (zs : List ℕ). has (c ∷ zs) d) (sym (take_all k (sift o c x (take k xs)) h)) ∙
          ap (λ (zs : List ℕ). has zs d) (sym down)

      -- the referenced page is held
      inside : has (take k xs) c ≡ true → next_held o (suc k) c (x ∷ xs) ≡ has (take (suc k) (restacked o c (x ∷ xs)))
      inside m =
          admit_hit (suc k) _ c (has (x ∷ take k xs)) (or_right (eqb x c) (has (take k xs) c) m) ∙
          fun_ext (λ d. hit (eqb c d) (eqb x d) (has (take k xs) d) (λ e. subst (λ (z : ℕ). has (take k xs) z ≡ true) (eqb-true c d e) m) ∙ whole (omega (arith, few, length_sift o c x (take k xs) m)) d)

      -- it is not
      module _ (n : has (take k xs) c ≡ false) where
        out : has (x ∷ take k xs) c ≡ false
        out = or_from (eqb x c) (has (take k xs) c) t n

        split : sift o c x (take k xs) ≡ front o x (take k xs) ++ behind o x (take k xs) ∷ []
        split = sift_front o c x (take k xs) n

        long : length (sift o c x (take k xs)) ≡ length (take k xs) + 1
        long = ap length split ∙ length_push (front o x (take k xs)) (behind o x (take k xs)) ∙ ap (λ (z : ℕ). z + 1) (length_front o x (take k xs))

        free : length (take k xs) < k → next_held o (suc k) c (x ∷ xs) ≡ has (take (suc k) (restacked o c (x ∷ xs)))
        free h =
            admit_room (suc k) _ c (has (x ∷ take k xs)) out (omega (arith, many)) ∙
            fun_ext (λ d. miss (eqb c d) (eqb x d) (has (take k xs) d) ∙ whole (omega (arith, long)) d)

        full : k ≤ length (take k xs) → next_held o (suc k) c (x ∷ xs) ≡ has (take (suc k) (restacked o c (x ∷ xs)))
        full h =
            let w = behind o x (take k xs) in
            let ys = front o x (take k xs) in
            let even : length ys ≡ k = length_front o x (take k xs) ∙ omega (arith, few) in
            let all : take k (sift o c x (take k xs)) ≡ ys = ap (take k) split ∙ take_at ys (w ∷ []) k even in
            let list : take (suc k) (restacked o c (x ∷ xs)) ≡ c ∷ ys = down ∙ ap (λ (zs : List ℕ). c ∷ zs) all in
            let in_ys : (d : ℕ) → has ys d ≡ (not (eqb w d) && (eqb x d || (has (take k xs) d && not (eqb c d)))) =
            λ d. has_front d w ys (subst (λ (zs : List ℕ). once zs ≡ true) split (once_sift o c x (take k xs) xya t)) ∙
            ap (λ (zs : List ℕ). not (eqb w d) && has zs d) (sym split) ∙ ap (λ (z : Bool). not (eqb w d) && z) (in_sift d) in
            admit_full (suc k) (hindmost o codes (has (x ∷ take k xs))) c (has (x ∷ take k xs)) out (omega (arith, many)) ∙
            ap (λ (z : ℕ). with_page c (without z (has (x ∷ take k xs)))) (hindmost_behind o order x (take k xs) xyl) ∙
            fun_ext (λ d. swept (eqb c d) (eqb x d) (has (take k xs) d) (not (eqb w d)) ∙ ap (λ (z : Bool). eqb c d || z) (sym (in_ys d)) ∙ ap (λ (zs : List ℕ). has zs d) (sym list))

  -- the first pages of the stack stay what the frames hold
  pub held_restacked : (st : List ℕ) → once st ≡ true → coded st ≡ true → next_held o (suc k) c st ≡ has (take (suc k) (restacked o c st))
  held_restacked [] a l = none
  held_restacked (x ∷ xs) a l =
      elim (cases_Bool (eqb x c)) [
        | inl t ↦ at_top x xs a l t
        | inr t ↦
            (elim (cases_Bool (has (take k xs) c)) [
              | inl m ↦ inside x xs a l t m
              | inr n ↦
                  (elim (cases_lt (length (take k xs)) k) [
                    | inl h ↦ free x xs a l t n h
                    | inr h ↦ full x xs a l t n h
                  ])
            ])
      ]

module _ (o : ℕ → ℕ → Bool) (c : ℕ) where
  -- the stack keeps each code once
  pub once_restacked : (st : List ℕ) → once st ≡ true → once (restacked o c st) ≡ true
  once_restacked [] a = refl
  once_restacked (x ∷ xs) a =
      let q = and_parts (not (has xs x)) (once xs) a in
      elim (cases_Bool (eqb x c)) [
        | inl t ↦ (rw t (subst (λ (z : ℕ). once (z ∷ xs) ≡ true) (eqb-true x c t) a))
        | inr t ↦
            (let gone : has (sift o c x xs) c ≡ false = has_sift o c c x xs q.1 t ∙ or_from (eqb x c) (has xs c && not (eqb c c)) t (and_right (has xs c) (not (eqb c c)) (not_from_true _ (eqb_self c))) in
            rw t (and_from _ _ (not_from_false _ gone) (once_sift o c x xs a t)))
      ]

  pub coded_restacked : (st : List ℕ) → c < codes → coded st ≡ true → coded (restacked o c st) ≡ true
  coded_restacked [] h l = and_from _ _ (lt-ltb c codes h) refl
  coded_restacked (x ∷ xs) h l =
      elim (cases_Bool (eqb x c)) [
        | inl t ↦ (rw t (and_from _ _ (lt-ltb c codes h) (and_parts (ltb x codes) (coded xs) l).1))
        | inr t ↦ (rw t (and_from _ _ (lt-ltb c codes h) (coded_sift o c x xs l)))
      ]
