-- Lists of different codes as sets. Assumes nothing.
use Rattle.std.proofs.Common.{◌≡◌, ℕ, zero, suc, ◌+◌, ◌-◌, ◌<◌, ◌≤◌, Bool, true, false, not, ◌&&◌, ◌||◌, eqb, ltb, leb, ◌⊎◌, List, [], ◌∷◌, ◌++◌, length, get_or, take, drop, length-take, sym, refl, ap, ◌∙◌, subst, inl, inr, arith}
use Rattle.std.proofs.lemmas.List.{take-take, length-take-le, get_or-take, get_or-drop, get_or_append_left, get_or-append_right}
use Rattle.std.proofs.lemmas.Bool.{cases_eq, cases_lt, lt-ltb, le-ltb, ltb-true, le-leb, lt-leb, eq-eqb, ne_eqb, eqb-true, or_parts, or_from, or_cases, and_parts, and_from, not_from_false, not-true, both_ways}
use Rattle.std.proofs.lemmas.Bool.Decides.{nat_tests}
use Rattle.std.specs.List.{position, position_or_len}
use Rattle.std.specs.Option.{unwrap_or}
use Rattle.paging.specs.Pages.{bit, codes, Pages, has}
use Rattle.paging.specs.Queues.{once, coded}
use Rattle.paging.proofs.Queues.{has_push}

pub eqb_self : (c : ℕ) → eqb c c ≡ true
eqb_self c = eq-eqb c c refl

pub eqb_flip : (c d : ℕ) → eqb c d ≡ eqb d c
eqb_flip c d =
    elim (cases_eq c d) [ inl e ↦ (eq-eqb c d e ∙ sym (eq-eqb d c (sym e))) | inr n ↦ (ne_eqb c d n ∙ sym (ne_eqb d c (λ e. n (sym e)))) ]

pub coded_has : (d : ℕ) (xs : List ℕ) → coded xs ≡ true → has xs d ≡ true → d < codes
coded_has d [] l m = absurd (both_ways false refl m)
coded_has d (x ∷ xs) l m =
    let p = and_parts (ltb x codes) (coded xs) l in
    elim (or_cases (eqb x d) (has xs d) m) [ inl e ↦ (omega (arith, eqb-true x d e, ltb-true x 256 p.0)) | inr e ↦ coded_has d xs p.1 e ]

pub has_take : (d k : ℕ) (xs : List ℕ) → has xs d ≡ false → has (take k xs) d ≡ false
has_take d zero xs e = refl
has_take d (suc k) [] e = refl
has_take d (suc k) (x ∷ xs) e = let p = or_parts (eqb x d) (has xs d) e in or_from _ _ p.0 (has_take d k xs p.1)

pub once_take : (k : ℕ) (xs : List ℕ) → once xs ≡ true → once (take k xs) ≡ true
once_take zero xs a = refl
once_take (suc k) [] a = refl
once_take (suc k) (x ∷ xs) a =
    let p = and_parts (not (has xs x)) (once xs) a in
    and_from _ _ (not_from_false _ (has_take x k xs (not-true _ p.0))) (once_take k xs p.1)

pub coded_take : (k : ℕ) (xs : List ℕ) → coded xs ≡ true → coded (take k xs) ≡ true
coded_take zero xs a = refl
coded_take (suc k) [] a = refl
coded_take (suc k) (x ∷ xs) a = let p = and_parts (ltb x codes) (coded xs) a in and_from _ _ p.0 (coded_take k xs p.1)

-- what stands before the last
front : (a m : Bool) → (a ≡ true → m ≡ false) → m ≡ (not a && (a || m))
front true m h = h refl
front false m h = refl

last_out : (w : ℕ) (xs : List ℕ) → once (xs ++ w ∷ []) ≡ true → has xs w ≡ false
last_out w [] a = refl
last_out w (x ∷ xs) a =
    let p = and_parts (not (has (xs ++ w ∷ []) x)) (once (xs ++ w ∷ [])) a in
    let q = or_parts (eqb w x) (has xs x) (sym (ap (λ (M : Pages). M x) (has_push xs w)) ∙ not-true _ p.0) in
    or_from _ _ (eqb_flip x w ∙ q.0) (last_out w xs p.1)

pub has_front : (d w : ℕ) (xs : List ℕ) → once (xs ++ w ∷ []) ≡ true → has xs d ≡ (not (eqb w d) && has (xs ++ w ∷ []) d)
has_front d w xs a =
    front (eqb w d) (has xs d) (λ e. subst (λ (y : ℕ). has xs y ≡ false) (eqb-true w d e) (last_out w xs a)) ∙
    ap (λ (z : Bool). not (eqb w d) && z) (sym (ap (λ (M : Pages). M d) (has_push xs w)))

-- a code that is not among the first f is not among fewer
pub has_before : (xs : List ℕ) (k f c : ℕ) → k ≤ f → has (take f xs) c ≡ false → has (take k xs) c ≡ false
has_before xs k f c h e = ap (λ (zs : List ℕ). has zs c) (sym (take-take k f xs h)) ∙ has_take c k (take f xs) e

-- where a code stands in a list, or m where it does not, tells which beginnings of the list have it
has_prefix : (xs : List ℕ) (k c : ℕ) → has (take k xs) c ≡ (ltb (position_or_len (λ x. eqb x c) xs) k && ltb (position_or_len (λ x. eqb x c) xs) (length xs))
has_prefix [] zero c = refl
has_prefix [] (suc k) c = grind (arith, nat_tests)
has_prefix (x ∷ xs) zero c = grind (arith, nat_tests)
has_prefix (x ∷ xs) (suc k) c = go (has_prefix xs k c) (cases_eq x c)
  where
    go : has (take k xs) c ≡ (ltb (position_or_len (λ y. eqb y c) xs) k && ltb (position_or_len (λ y. eqb y c) xs) (length xs)) → (x ≡ c) ⊎ (x ≡ c → ⊥) →
        (eqb x c || has (take k xs) c) ≡ (ltb (position_or_len (λ y. eqb y c) (x ∷ xs)) (suc k) && ltb (position_or_len (λ y. eqb y c) (x ∷ xs)) (suc (length xs)))
    go deep (inl e) = rw (eq-eqb x c e) (grind (arith, nat_tests))
    go deep (inr ne) = rw (ne_eqb x c ne, deep) (grind (arith, nat_tests))

pub has_within : (xs : List ℕ) (c f m : ℕ) → length xs ≤ m → f < m → has (take (suc f) xs) c ≡ leb (unwrap_or (position (λ x. eqb x c) xs) m) f
has_within xs c f m long low = rw (has_prefix xs (suc f) c) (go (cases_lt (position_or_len (λ x. eqb x c) xs) (length xs)))
  where
    go : (position_or_len (λ x. eqb x c) xs < length xs) ⊎ (length xs ≤ position_or_len (λ x. eqb x c) xs) →
        (ltb (position_or_len (λ x. eqb x c) xs) (suc f) && ltb (position_or_len (λ x. eqb x c) xs) (length xs)) ≡ leb (unwrap_or (position (λ x. eqb x c) xs) m) f
    go (inl l) = rw (lt-ltb _ _ l) (grind (arith, nat_tests))
    go (inr g) = rw (le-ltb _ _ g) (grind (arith, nat_tests))

-- the first n numbers are counted up, and the others stay
pub counted_up : (row items : List ℕ) (n f : ℕ) (b : Bool) → f < length row → length items ≡ length (take n row) →
    ((k : ℕ) → k < length (take n row) → get_or items k 0 ≡ get_or (take n row) k 0 + 1) → b ≡ leb n f →
    get_or (items ++ drop n row) f 0 ≡ get_or row f 0 + bit (not b)
counted_up row items n f b low long more e = go (cases_lt f n)
  where
    go : (f < n) ⊎ (n ≤ f) → get_or (items ++ drop n row) f 0 ≡ get_or row f 0 + bit (not b)
    go (inl l) =
        let within : f < length (take n row) = omega (arith, length-take n row) in
        rw (e, lt-leb n f l) (get_or_append_left items (drop n row) 0 f (omega arith) ∙ more f within ∙ ap (λ (k : ℕ). k + 1) (get_or-take n row f 0 l))
    go (inr g) =
        let at : n + (f - n) ≡ f = omega arith in
        rw (e, le-leb n f g) (omega (arith, get_or-append_right items (drop n row) n f 0 (long ∙ length-take-le n row (omega arith)) g ∙ get_or-drop n row (f - n) 0 ∙ ap (λ (k : ℕ). get_or row k 0) at))
