-- The place of a name in a row, and what looking one up comes to.
use Rattle.std.proofs.Common.{◌≡◌, ℕ, suc, ◌+◌, ◌≤◌, Bool, true, false, cond, eqb, ltb, List, [], ◌∷◌, map, length, set, position, Some, None, Ok, Err, Result, sym, refl, ap, ◌∙◌, suc-le-suc, zero-le, arith}
use Rattle.std.specs.List.{position_or_len}
use Rattle.std.proofs.lemmas.List.{length-map, length-take-le}
use Rattle.std.proofs.lemmas.List.Recursion.{is_position_or_len}
use Rattle.std.proofs.lemmas.Bool.{cond-true, cond-false, cond_both, ltb-false}
use Rattle.paging.specs.declared.refusal.Refusal.{Refusal}
use Rattle.paging.specs.declared.refusal.Refusal.TheVariants.{NoPlaceForName}
use Rattle.names.specs.Lists.{place_in, limit_of, known, held, in_list, listed, looked_up, looked_count, looked_memory}

pub place_most : (ns : List ℕ) (m : ℕ) → place_in ns m ≤ length ns
place_most [] m = zero-le
place_most (n ∷ ns) m = cond_both (eqb n m) 0 (suc (place_in ns m)) (λ k. k ≤ suc (length ns)) (λ _. zero-le) (λ _. suc-le-suc (place_most ns m))

pub length_listed : {X : Type 0} (f : X → ℕ) (xs : List X) (k : ℕ) → length (listed f xs k) ≡ held (length xs) k
length_listed f xs k = length-map (in_list xs k) f ∙ length-take-le (held (length xs) k) xs (omega arith)

-- a search answers the place of a known name, and none for another
search_place : {X : Type 0} (f : X → ℕ) (xs : List X) (m : ℕ) → position (λ x. eqb (f x) m) xs ≡ cond (known (map f xs) m) (Some (place_in (map f xs) m)) None
search_place {X} f xs m =
    let e : place_in (map f xs) m ≡ position_or_len (λ x. eqb (f x) m) xs = is_position_or_len (λ (ys : List X). place_in (map f ys) m) (λ x. eqb (f x) m) refl (λ x ys. grind arith) xs in
    rw (← e, length-map) refl

if_some : (b : Bool) (p q : ℕ) → Some p ≡ cond b (Some q) None → (b ≡ true) × (p ≡ q)
if_some true p q e = (refl, cc)
if_some false p q e = cc

if_none : (b : Bool) (q : ℕ) → None ≡ cond b (Some q) None → b ≡ false
if_none true q e = cc
if_none false q e = refl

-- what was written has a place, and what was refused has none
if_placed : (b : Bool) (c k : ℕ) (e : Refusal) → Ok c ≡ cond b (Ok k) (Err e) → b ≡ true
if_placed true c k e h = refl
if_placed false c k e h = cc

if_refused : (b : Bool) (k : ℕ) (d e : Refusal) → Err d ≡ cond b (Ok k) (Err e) → b ≡ false
if_refused true k d e h = cc
if_refused false k d e h = refl

module _ {X : Type 0} (f : X → ℕ) (xs : List X) (k : ℕ) (x : X) (most : k ≤ 256) (within : k ≤ length xs) where
  -- what a look-up comes to where the name is found
  pub looks_found : (ns : List X) (p : ℕ) → ns ≡ in_list xs k → Some p ≡ position (λ y. eqb (f y) (f x)) ns → (Ok p ≡ looked_up f xs k x) × (k ≡ looked_count f xs k x) × (xs ≡ looked_memory f xs k x)
  looks_found ns p is e =
      let h = if_some _ _ _ (e ∙ ap (position (λ y. eqb (f y) (f x))) is ∙ search_place f (in_list xs k) (f x)) in
      let counted : k ≡ held (length xs) k = omega arith in
      rw h.0 (ap Ok h.1, counted, refl)

  module _ (ns : List X) (is : ns ≡ in_list xs k) (none : None ≡ position (λ y. eqb (f y) (f x)) ns) where
    looks_new :
        (cond (ltb k (limit_of (length xs))) (Ok k) (Err NoPlaceForName) ≡ looked_up f xs k x)
        × (cond (ltb k (limit_of (length xs))) (k + 1) k ≡ looked_count f xs k x)
        × (cond (ltb k (limit_of (length xs))) (set xs k x) xs ≡ looked_memory f xs k x)
    looks_new =
        let h : known (listed f xs k) (f x) ≡ false = if_none _ _ (none ∙ ap (position (λ y. eqb (f y) (f x))) is ∙ search_place f (in_list xs k) (f x)) in
        let counted : held (length xs) k ≡ k = omega arith in
        let all : length (listed f xs k) ≡ k = length_listed f xs k ∙ counted in
        let last : place_in (listed f xs k) (f x) ≡ k = omega (arith, place_most (listed f xs k) (f x), ltb-false _ _ h) in
        rw (h, all, last, counted) (refl, refl, refl)

    -- where it is not found, and has a place behind the others
    pub looks_put : (c : ℕ) (xs' : List X) → Ok c ≡ cond (ltb k (limit_of (length xs))) (Ok k) (Err NoPlaceForName) → xs' ≡ cond (ltb k (limit_of (length xs))) (set xs k x) xs →
        (Ok c ≡ looked_up f xs k x) × (k + 1 ≡ looked_count f xs k x) × (xs' ≡ looked_memory f xs k x)
    looks_put c xs' e m = (e ∙ looks_new.0, sym (cond-true _ _ _ (if_placed _ _ _ _ e)) ∙ looks_new.1, m ∙ looks_new.2)

    -- and where there is no place
    pub looks_refused : (r : Result ℕ Refusal) (d : Refusal) (xs' : List X) → r ≡ Err d → Err d ≡ cond (ltb k (limit_of (length xs))) (Ok k) (Err NoPlaceForName) → xs' ≡ cond (ltb k (limit_of (length xs))) (set xs k x) xs →
        (r ≡ looked_up f xs k x) × (k ≡ looked_count f xs k x) × (xs' ≡ looked_memory f xs k x)
    looks_refused r d xs' was e m = (was ∙ e ∙ looks_new.0, sym (cond-false _ _ _ (if_refused _ _ _ _ e)) ∙ looks_new.1, m ∙ looks_new.2)
