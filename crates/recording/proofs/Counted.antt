-- How many different names a row has, and how many different codes they get.
use Rattle.std.proofs.Common.{◌≡◌, ℕ, ◌+◌, ◌<◌, ◌≤◌, Bool, true, false, not, ◌&&◌, ◌||◌, eqb, ltb, ◌⊎◌, List, [], ◌∷◌, ◌++◌, length, get_or, Ok, sym, refl, ap, ◌∙◌, inl, inr, ⊎_elim, arith}
use Rattle.std.proofs.lemmas.List.{length_push, length-map}
use Rattle.std.proofs.lemmas.Bool.{cases_Bool, cases_eq, cases_lt, cond-true, cond-false, and_parts, both_ways, eq-eqb, ne_eqb, lt-ltb, le-ltb, ltb-true, ltb-false}
use Rattle.paging.specs.Pages.{bit, codes, size, has}
use Rattle.paging.proofs.Queues.{has_append}
use Rattle.paging.proofs.Sets.{total_same}
use Rattle.paging.proofs.Sums.{total_below}
use Rattle.names.specs.Lists.{place_in, known, with_name}
use Rattle.recording.specs.Coding.{coded, learnt, codes_of, names_of, different}
use Rattle.recording.specs.Standing.{Counted}
use Rattle.recording.specs.Writing.{all_named}
use Rattle.names.proofs.Places.{place_most}
use Rattle.names.proofs.Lookups.{adds_new, known_has}
use Rattle.recording.proofs.Codes.{coded_first, codes_stand}

-- how many different names of the row ms are not in the list ns
unfoldable pub outside : List ℕ → List ℕ → ℕ
outside ns [] = 0
outside ns (m ∷ ms) = bit (not (has ms m) && not (has ns m)) + outside ns ms

pub outside_none : (ms : List ℕ) → outside [] ms ≡ different ms
unfolding outside different
outside_none [] = refl
outside_none (m ∷ ms) = rw (outside_none ms) (ap (λ (b : Bool). bit b + different ms) (each (not (has ms m))))
  where
    each : (b : Bool) → (b && true) ≡ b
    each true = refl
    each false = refl

-- a name that comes into the list is outside no more
module _ (ns : List ℕ) (m : ℕ) (new : has ns m ≡ false) where
  has_pushed : has (ns ++ m ∷ []) m ≡ true
  has_pushed = has_append ns (m ∷ []) m ∙ rw (new, eq-eqb m m refl)

  has_others : (x : ℕ) → (x ≡ m → ⊥) → has (ns ++ m ∷ []) x ≡ has ns x
  has_others x ne = has_append ns (m ∷ []) x ∙ rw (ne_eqb m x (λ e. ne (sym e))) (each (has ns x))
    where
      each : (b : Bool) → (b || false) ≡ b
      each true = refl
      each false = refl

  outside_push : (ms : List ℕ) → outside ns ms ≡ bit (has ms m) + outside (ns ++ m ∷ []) ms
  unfolding outside
  outside_push [] = refl
  outside_push (x ∷ xs) = go (cases_eq x m) (outside_push xs)
    where
      each : (b : Bool) (p q : ℕ) → p ≡ bit b + q → bit (not b && true) + p ≡ 1 + (bit (not b && false) + q)
      each true p q e = omega arith
      each false p q e = omega arith

      go : (x ≡ m) ⊎ (x ≡ m → ⊥) → outside ns xs ≡ bit (has xs m) + outside (ns ++ m ∷ []) xs → outside ns (x ∷ xs) ≡ bit (has (x ∷ xs) m) + outside (ns ++ m ∷ []) (x ∷ xs)
      go (inl e) r = rw (e, eq-eqb m m refl, new, has_pushed) (each (has xs m) _ _ r)
      go (inr ne) r = rw (ne_eqb x m ne, has_others x ne) (omega (arith, r))

  pub outside_new : (ms : List ℕ) → outside ns (m ∷ ms) ≡ 1 + outside (ns ++ m ∷ []) ms
  unfolding outside
  outside_new ms = rw new (omega (arith, outside_push ms, each (has ms m)))
    where
      each : (b : Bool) → bit (not b && true) + bit b ≡ 1
      each true = refl
      each false = refl

-- a name of the list is not outside
outside_known : (ns ms : List ℕ) (m : ℕ) → has ns m ≡ true → outside ns (m ∷ ms) ≡ outside ns ms
unfolding outside
outside_known ns ms m h = rw h (omega (arith, none (not (has ms m))))
  where
    none : (b : Bool) → bit (b && false) ≡ 0
    none true = refl
    none false = refl

-- one name more: the list grows by those that were outside
module _ (limit : ℕ) (ns ms : List ℕ) (m : ℕ) (t : (known ns m || ltb (length ns) limit) ≡ true) where
  pub outside_more : length (with_name limit ns m) + outside (with_name limit ns m) ms ≡ length ns + outside ns (m ∷ ms)
  outside_more = go (cases_Bool (known ns m))
    where
      go : (known ns m ≡ true) ⊎ (known ns m ≡ false) → length (with_name limit ns m) + outside (with_name limit ns m) ms ≡ length ns + outside ns (m ∷ ms)
      go (inl k) =
          let e : with_name limit ns m ≡ ns = cond-false _ _ _ (adds_new limit ns m t ∙ ap not k) in
          rw e (omega (arith, outside_known ns ms m (sym (known_has ns m) ∙ k)))
      go (inr k) =
          let e : with_name limit ns m ≡ ns ++ m ∷ [] = cond-true _ _ _ (adds_new limit ns m t ∙ ap not k) in
          rw e (omega (arith, length_push ns m, outside_new ns m (sym (known_has ns m) ∙ k) ms))

-- the list learns the names that were outside
learnt_outside : (limit : ℕ) (ns cs ms ds : List ℕ) → coded limit ns cs ms ≡ Ok ds → length (learnt limit ns ms) ≡ length ns + outside ns ms
unfolding coded learnt outside
learnt_outside limit ns cs [] ds e = omega arith
learnt_outside limit ns cs (m ∷ ms) ds e =
    let first = coded_first limit ns cs m ms ds e in
    omega (arith, learnt_outside limit (with_name limit ns m) (cs ++ place_in ns m ∷ []) ms ds first.1, outside_more limit ns ms m first.0)

-- a list that began empty has the different names of the row
pub names_counted : (limit : ℕ) (ms cs : List ℕ) → codes_of limit ms ≡ Ok cs → length (names_of limit ms) ≡ different ms
names_counted limit ms cs e = omega (arith, learnt_outside limit [] [] ms cs e, outside_none ms)

-- a code that is not refused is listed or comes right behind
module _ (limit : ℕ) (ns cs : List ℕ) (m : ℕ) (t : (known ns m || ltb (length ns) limit) ≡ true) (all : (c : ℕ) → c < length ns → has cs c ≡ true) where
  covers_more : (c : ℕ) → c < length (with_name limit ns m) → has (cs ++ place_in ns m ∷ []) c ≡ true
  covers_more c h = has_append cs (place_in ns m ∷ []) c ∙ go (cases_lt c (length ns))
    where
      last : (known ns m ≡ true) ⊎ (known ns m ≡ false) → length ns ≤ c → place_in ns m ≡ c
      last (inl k) l = absurd (let e : with_name limit ns m ≡ ns = cond-false _ _ _ (adds_new limit ns m t ∙ ap not k) in omega (arith, ap length e))
      last (inr k) l =
          let e : with_name limit ns m ≡ ns ++ m ∷ [] = cond-true _ _ _ (adds_new limit ns m t ∙ ap not k) in
          omega (arith, ap length e, length_push ns m, place_most ns m, ltb-false _ _ k)

      each : (b : Bool) → (b || true) ≡ true
      each true = refl
      each false = refl

      go : (c < length ns) ⊎ (length ns ≤ c) → (has cs c || (eqb (place_in ns m) c || false)) ≡ true
      go (inl l) = rw (all c l)
      go (inr l) = rw (eq-eqb (place_in ns m) c (last (cases_Bool (known ns m)) l)) (each (has cs c))

-- every name that was learnt has its code among the codes
coded_covers : (limit : ℕ) (ns cs ms ds : List ℕ) → coded limit ns cs ms ≡ Ok ds → ((c : ℕ) → c < length ns → has cs c ≡ true) → (c : ℕ) → c < length (learnt limit ns ms) → has ds c ≡ true
unfolding coded learnt
coded_covers limit ns cs [] ds e all =
    let same : cs ≡ ds = cc in
    λ c h. ap (λ (xs : List ℕ). has xs c) (sym same) ∙ all c h
coded_covers limit ns cs (m ∷ ms) ds e all =
    let first = coded_first limit ns cs m ms ds e in
    coded_covers limit (with_name limit ns m) (cs ++ place_in ns m ∷ []) ms ds first.1 (covers_more limit ns cs m first.0 all)

-- no code is beyond those of the list
named_low : (n : ℕ) (cs : List ℕ) (c : ℕ) → all_named n cs ≡ true → has cs c ≡ true → c < n
named_low n [] c t h = absurd (both_ways false refl h)
named_low n (d ∷ cs) c t h =
    let p = and_parts (ltb d n) (all_named n cs) t in
    ⊎_elim
    (λ e. rw e at (ltb-true d n p.0))
    (λ ne. named_low n cs c p.1 (sym (ap (λ (b : Bool). b || has cs c) (ne_eqb d c ne)) ∙ h))
    (cases_eq d c)

-- so the codes are as many different pages as the row has different names
pages_counted : (limit : ℕ) (ms cs : List ℕ) → limit ≤ codes → codes_of limit ms ≡ Ok cs → size (has cs) ≡ different ms
pages_counted limit ms cs most e =
    let n = length (names_of limit ms) in
    let stands = codes_stand limit ms cs e in
    omega (
      arith,
      total_same codes (λ c. bit (has cs c)) (λ c. bit (ltb c n)) (λ c _. ap bit (each c (cases_lt c n))),
      total_below codes n,
      stands.within,
      names_counted limit ms cs e,
    )
  where
    each : (c : ℕ) → (c < length (names_of limit ms)) ⊎ (length (names_of limit ms) ≤ c) → has cs c ≡ ltb c (length (names_of limit ms))
    each c (inl l) = coded_covers limit [] [] ms cs e (λ d h. absurd (omega arith)) c l ∙ sym (lt-ltb c _ l)
    each c (inr l) = go (cases_Bool (has cs c))
      where
        go : (has cs c ≡ true) ⊎ (has cs c ≡ false) → has cs c ≡ ltb c (length (names_of limit ms))
        go (inl h) = absurd (omega (arith, named_low _ cs c (codes_stand limit ms cs e).named h))
        go (inr h) = h ∙ sym (le-ltb c _ l)

pub counts_stand : (limit : ℕ) (ms cs : List ℕ) → codes_of limit ms ≡ Ok cs → Counted limit ms cs
counts_stand limit ms cs e =
    record {
      references = sym (length-map cs (λ c. get_or (names_of limit ms) c 0)) ∙ ap length (codes_stand limit ms cs e).back;
      names = names_counted limit ms cs e;
      pages = λ most. pages_counted limit ms cs most e;
    }
