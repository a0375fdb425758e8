-- What looking a name up means.
use Rattle.std.proofs.Common.{◌≡◌, ℕ, suc, ◌+◌, ◌<◌, ◌≤◌, Bool, true, false, cond, not, ◌&&◌, ◌||◌, eqb, ltb, ◌⊎◌, List, [], ◌∷◌, ◌++◌, map, length, get_or, take, set, Ok, Err, Result, sym, refl, ap, ◌∙◌, inl, inr, ⊎_elim, arith}
use Rattle.std.proofs.lemmas.List.{length_push, length-set, get_or_push, map_push, take_more_set}
use Rattle.std.proofs.lemmas.Bool.Decides.{nat_tests}
use Rattle.std.proofs.lemmas.Bool.{cases_Bool, cond-true, cond-false, eqb-true, lt-ltb, ltb-true, ltb-false, and_parts, or_parts, not-true}
use Rattle.paging.specs.declared.refusal.Refusal.{Refusal}
use Rattle.paging.specs.declared.refusal.Refusal.TheVariants.{NoPlaceForName}
use Rattle.paging.specs.Pages.{has}
use Rattle.names.specs.Lists.{place_in, limit_of, known, adds, with_name, look_answer, held, listed, looked_up, looked_count, looked_memory, LookUp}
use Rattle.names.proofs.Places.{place_most, length_listed}

-- a known name stands at its place
pub place_get : (ns : List ℕ) (m : ℕ) → place_in ns m < length ns → get_or ns (place_in ns m) 0 ≡ m
place_get [] m h = absurd (omega arith)
place_get (n ∷ ns) m h = ⊎_elim
    (λ t. rw t (eqb-true n m t))
    (λ t. let e : place_in (n ∷ ns) m ≡ suc (place_in ns m) = rw t in rw t (place_get ns m (omega arith)))
    (cases_Bool (eqb n m))

ltb_suc : (a b : ℕ) → ltb (suc a) (suc b) ≡ ltb a b
ltb_suc a b = grind (arith, nat_tests)

-- the known names are those of the list
pub known_has : (ns : List ℕ) (m : ℕ) → known ns m ≡ has ns m
known_has [] m = refl
known_has (n ∷ ns) m = ⊎_elim
    (λ t. rw t (lt-ltb 0 (length (n ∷ ns)) (omega arith)))
    (λ t. rw t (ltb_suc (place_in ns m) (length ns) ∙ known_has ns m))
    (cases_Bool (eqb n m))

module _ (limit : ℕ) (ns : List ℕ) (m : ℕ) where
  -- a name that is not refused is added exactly if it is new, and one that is refused is not added
  pub adds_new : (known ns m || ltb (length ns) limit) ≡ true → adds limit ns m ≡ not (known ns m)
  adds_new = each (known ns m) (ltb (length ns) limit)
    where
      each : (a b : Bool) → (a || b) ≡ true → (not a && b) ≡ not a
      each true b t = refl
      each false b t = t

  adds_none : (known ns m || ltb (length ns) limit) ≡ false → adds limit ns m ≡ false
  adds_none = each (known ns m) (ltb (length ns) limit)
    where
      each : (a b : Bool) → (a || b) ≡ false → (not a && b) ≡ false
      each true b t = refl
      each false b t = t

  -- the list stays as it was, or a new name comes last
  is_new : adds limit ns m ≡ true → (length ns ≤ place_in ns m) × (length ns < limit)
  is_new t =
      let p = and_parts (not (known ns m)) (ltb (length ns) limit) t in
      (ltb-false _ _ (not-true _ p.0), ltb-true _ _ p.1)

  pub with_cases : (with_name limit ns m ≡ ns) ⊎ ((with_name limit ns m ≡ ns ++ m ∷ []) × (length ns ≤ place_in ns m) × (length ns < limit))
  with_cases = ⊎_elim
      (λ t. inr (cond-true _ _ _ t, (is_new t).0, (is_new t).1))
      (λ t. inl (cond-false _ _ _ t))
      (cases_Bool (adds limit ns m))

  pub with_within : length ns ≤ limit → length (with_name limit ns m) ≤ limit
  with_within h = ⊎_elim (λ e. rw e h) (λ e. rw e.0 (omega (arith, length_push ns m, e.2))) with_cases

  -- where it is not refused, the name stands at its place afterwards
  pub placed : (known ns m || ltb (length ns) limit) ≡ true → (place_in ns m < length (with_name limit ns m)) × (get_or (with_name limit ns m) (place_in ns m) 0 ≡ m)
  placed t = go (cases_Bool (known ns m))
    where
      go : (known ns m ≡ true) ⊎ (known ns m ≡ false) → (place_in ns m < length (with_name limit ns m)) × (get_or (with_name limit ns m) (place_in ns m) 0 ≡ m)
      go (inl k) =
          let e : with_name limit ns m ≡ ns = cond-false _ _ _ (adds_new t ∙ ap not k) in
          let l = ltb-true _ _ k in
          rw e (l, place_get ns m l)
      go (inr k) =
          let e : with_name limit ns m ≡ ns ++ m ∷ [] = cond-true _ _ _ (adds_new t ∙ ap not k) in
          let at : length ns ≡ place_in ns m = omega (arith, place_most ns m, ltb-false _ _ k) in
          let low : place_in ns m < length (ns ++ m ∷ []) = omega (arith, length_push ns m) in
          rw e (low, get_or_push ns m 0 (place_in ns m) at)

  look_means : length ns ≤ limit → LookUp limit ns m (with_name limit ns m) (look_answer limit ns m)
  look_means most = go (known ns m || ltb (length ns) limit) refl
    where
      go : (b : Bool) → (known ns m || ltb (length ns) limit) ≡ b → LookUp limit ns m (with_name limit ns m) (cond b (Ok (place_in ns m)) (Err NoPlaceForName))
      go true t = ((placed t).0, (placed t).1, ap (λ (b : Bool). cond b (ns ++ m ∷ []) ns) (adds_new t ∙ ap not (known_has ns m)), with_within most)
      go false t =
          let p = or_parts (known ns m) (ltb (length ns) limit) t in
          (refl, sym (known_has ns m) ∙ p.0, ltb-false _ _ p.1, cond-false _ _ _ (adds_none t))

module _ {X : Type 0} (f : X → ℕ) (xs : List X) (k : ℕ) (x : X) where
  -- a record that is written behind the others comes last
  pub listed_push : held (length xs) k < limit_of (length xs) → listed f (set xs (held (length xs) k) x) (held (length xs) k + 1) ≡ listed f xs k ++ f x ∷ []
  listed_push room =
      let h = held (length xs) k in
      let all : held (length (set xs h x)) (h + 1) ≡ h + 1 = omega (arith, length-set xs h x) in
      ap (λ (n : ℕ). map f (take n (set xs h x))) all ∙ ap (map f) (take_more_set xs h x (omega arith)) ∙ map_push f (take h xs) x

  -- the names of the list after a look-up
  pub listed_looked : listed f (looked_memory f xs k x) (looked_count f xs k x) ≡ with_name (limit_of (length xs)) (listed f xs k) (f x)
  listed_looked = go (adds (limit_of (length xs)) (listed f xs k) (f x)) refl
    where
      go : (b : Bool) → adds (limit_of (length xs)) (listed f xs k) (f x) ≡ b →
          listed f (cond b (set xs (held (length xs) k) x) xs) (cond b (held (length xs) k + 1) (held (length xs) k)) ≡ cond b (listed f xs k ++ f x ∷ []) (listed f xs k)
      go true t = listed_push (omega (arith, length_listed f xs k, ltb-true _ _ (and_parts (not (known (listed f xs k) (f x))) (ltb (length (listed f xs k)) (limit_of (length xs))) t).1))
      go false t =
          let same : held (length xs) (held (length xs) k) ≡ held (length xs) k = omega arith in
          ap (λ (n : ℕ). map f (take n xs)) same

  pub look_up_means : (r : Result ℕ Refusal) (k' : ℕ) (xs' : List X) → r ≡ looked_up f xs k x → k' ≡ looked_count f xs k x → xs' ≡ looked_memory f xs k x →
      LookUp (limit_of (length xs)) (listed f xs k) (f x) (listed f xs' k') r
  look_up_means r k' xs' er ek ex =
      rw (er, ek, ex, listed_looked) (look_means (limit_of (length xs)) (listed f xs k) (f x) (omega (arith, length_listed f xs k)))
