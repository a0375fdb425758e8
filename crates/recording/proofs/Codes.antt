-- The codes of a row of names stand for those names.
use Rattle.std.proofs.Common.{◌≡◌, ℕ, suc, ◌<◌, ◌≤◌, true, ◌||◌, eqb, ltb, List, [], ◌∷◌, ◌++◌, length, get_or, Ok, Err, sym, refl, ap, ◌∙◌, ⊎_elim, arith}
use Rattle.std.proofs.lemmas.List.{append-nil, append_assoc, length_push, get_or_push, get_or_append_left, map_push}
use Rattle.std.proofs.lemmas.Bool.{cases_Bool, cases_lt, cond-true, cond-false, and_parts, and_from, lt-ltb, ltb-true, eq-eqb}
use Rattle.names.specs.Lists.{place_in, known, with_name}
use Rattle.recording.specs.Coding.{coded, learnt, codes_of}
use Rattle.recording.specs.Writing.{named_by, all_named}
use Rattle.recording.specs.Standing.{Different, Coded}
use Rattle.names.proofs.Lookups.{with_cases, with_within, placed}

pub place_left : (ns ms : List ℕ) (m : ℕ) → place_in ns m < length ns → place_in (ns ++ ms) m ≡ place_in ns m
place_left [] ms m h = absurd (omega arith)
place_left (n ∷ ns) ms m h = ⊎_elim
    (λ t. rw t refl)
    (λ t. let e : place_in (n ∷ ns) m ≡ suc (place_in ns m) = rw t in rw t (ap suc (place_left ns ms m (omega arith))))
    (cases_Bool (eqb n m))

pub place_push : (ns : List ℕ) (m : ℕ) → length ns ≤ place_in ns m → place_in (ns ++ m ∷ []) m ≡ length ns
place_push [] m h = rw (eq-eqb m m refl) refl
place_push (n ∷ ns) m h = ⊎_elim
    (λ t. let e : place_in (n ∷ ns) m ≡ 0 = rw t in absurd (omega arith))
    (λ t. let e : place_in (n ∷ ns) m ≡ suc (place_in ns m) = rw t in rw t (ap suc (place_push ns m (omega arith))))
    (cases_Bool (eqb n m))

-- what is kept where a list goes on: its names stay at their places
pub record GoesOn (ns ls : List ℕ) : Type 0 where
  pub longer : length ns ≤ length ls
  pub same : (i : ℕ) → i < length ns → get_or ls i 0 ≡ get_or ns i 0

goes_on_push : (ns : List ℕ) (m : ℕ) → GoesOn ns (ns ++ m ∷ [])
goes_on_push ns m = record { longer = omega (arith, length_push ns m); same = λ i h. get_or_append_left ns (m ∷ []) 0 i h }

different_push : (ns : List ℕ) (m : ℕ) → length ns ≤ place_in ns m → Different ns → Different (ns ++ m ∷ [])
different_push ns m new d i h = ⊎_elim
    (λ (l : i < length ns).
    let e : get_or (ns ++ m ∷ []) i 0 ≡ get_or ns i 0 = get_or_append_left ns (m ∷ []) 0 i l in
    let p = d i l in
    ap (place_in (ns ++ m ∷ [])) e ∙ place_left ns (m ∷ []) (get_or ns i 0) (omega arith) ∙ p)
    (λ (l : length ns ≤ i).
    let at : length ns ≡ i = omega (arith, length_push ns m) in
    let e : get_or (ns ++ m ∷ []) i 0 ≡ m = get_or_push ns m 0 i at in
    ap (place_in (ns ++ m ∷ [])) e ∙ place_push ns m new ∙ at)
    (cases_lt i (length ns))

-- one look-up
module _ (limit : ℕ) (ns : List ℕ) (m : ℕ) where
  with_goes_on : GoesOn ns (with_name limit ns m)
  with_goes_on = ⊎_elim
      (λ e. rw e (record { longer = omega arith; same = λ i h. refl }))
      (λ e. rw e.0 (goes_on_push ns m))
      (with_cases limit ns m)

  with_different : Different ns → Different (with_name limit ns m)
  with_different d = ⊎_elim (λ e. rw e d) (λ e. rw e.0 (different_push ns m e.1 d)) (with_cases limit ns m)

-- all look-ups of a row
pub learnt_goes_on : (limit : ℕ) (ns ms : List ℕ) → GoesOn ns (learnt limit ns ms)
unfolding learnt
learnt_goes_on limit ns [] = record { longer = omega arith; same = λ i h. refl }
learnt_goes_on limit ns (m ∷ ms) =
    let a = with_goes_on limit ns m in
    let b = learnt_goes_on limit (with_name limit ns m) ms in
    record { longer = omega (arith, a.longer, b.longer); same = λ i h. b.same i (omega (arith, a.longer)) ∙ a.same i h }

pub learnt_different : (limit : ℕ) (ns ms : List ℕ) → Different ns → Different (learnt limit ns ms)
unfolding learnt
learnt_different limit ns [] d = d
learnt_different limit ns (m ∷ ms) d = learnt_different limit (with_name limit ns m) ms (with_different limit ns m d)

pub learnt_within : (limit : ℕ) (ns ms : List ℕ) → length ns ≤ limit → length (learnt limit ns ms) ≤ limit
unfolding learnt
learnt_within limit ns [] h = h
learnt_within limit ns (m ∷ ms) h = learnt_within limit (with_name limit ns m) ms (with_within limit ns m h)

named_longer : (a b : ℕ) (cs : List ℕ) → a ≤ b → all_named a cs ≡ true → all_named b cs ≡ true
named_longer a b [] h t = refl
named_longer a b (c ∷ cs) h t =
    let p = and_parts (ltb c a) (all_named a cs) t in
    and_from (ltb c b) (all_named b cs) (lt-ltb c b (omega (arith, ltb-true c a p.0))) (named_longer a b cs h p.1)

named_push : (n : ℕ) (cs : List ℕ) (c : ℕ) → all_named n cs ≡ true → c < n → all_named n (cs ++ c ∷ []) ≡ true
named_push n [] c t h = and_from (ltb c n) true (lt-ltb c n h) refl
named_push n (d ∷ cs) c t h =
    let p = and_parts (ltb d n) (all_named n cs) t in
    and_from (ltb d n) (all_named n (cs ++ c ∷ [])) p.0 (named_push n cs c p.1 h)

-- where a row is accepted, its first name was, and then the others were
pub coded_first : (limit : ℕ) (ns cs : List ℕ) (m : ℕ) (ms ds : List ℕ) → coded limit ns cs (m ∷ ms) ≡ Ok ds → ((known ns m || ltb (length ns) limit) ≡ true) × (coded limit (with_name limit ns m) (cs ++ place_in ns m ∷ []) ms ≡ Ok ds)
unfolding coded
coded_first limit ns cs m ms ds e = ⊎_elim
    (λ k. (k, sym (cond-true _ _ _ k) ∙ e))
    (λ k.
    let o : coded limit ns cs (m ∷ ms) ≡ Err (suc (length cs)) = cond-false _ _ _ k in
    absurd (let z : ◌≡◌ {A = ℕ} 0 1 = cc in omega arith))
    (cases_Bool (known ns m || ltb (length ns) limit))

-- each code stands for its name, in the list as it is at the end
coded_back : (limit : ℕ) (ns cs ms ds : List ℕ) → coded limit ns cs ms ≡ Ok ds → all_named (length ns) cs ≡ true → (all_named (length (learnt limit ns ms)) ds ≡ true) × (named_by (learnt limit ns ms) ds ≡ named_by (learnt limit ns ms) cs ++ ms)
unfolding coded learnt
coded_back limit ns cs [] ds e t =
    let same : cs ≡ ds = cc in
    (ap (all_named (length ns)) (sym same) ∙ t, ap (named_by ns) (sym same) ∙ sym (append-nil (named_by ns cs)))
coded_back limit ns cs (m ∷ ms) ds e t =
    let ns' = with_name limit ns m in
    let c = place_in ns m in
    let first = coded_first limit ns cs m ms ds e in
    let p = placed limit ns m first.0 in
    let t' = named_push (length ns') cs c (named_longer (length ns) (length ns') cs (with_goes_on limit ns m).longer t) p.0 in
    let r = coded_back limit ns' (cs ++ c ∷ []) ms ds first.1 t' in
    let L = learnt limit ns' ms in
    let at : get_or L c 0 ≡ m = (learnt_goes_on limit ns' ms).same c p.0 ∙ p.1 in (
      r.0,
      r.1
          ∙ ap (λ (xs : List ℕ). xs ++ ms) (map_push (λ d. get_or L d 0) cs c ∙ ap (λ (y : ℕ). named_by L cs ++ y ∷ []) at)
          ∙ append_assoc (named_by L cs) (m ∷ []) ms,
    )

pub codes_stand : (limit : ℕ) (ms cs : List ℕ) → codes_of limit ms ≡ Ok cs → Coded limit ms cs
codes_stand limit ms cs e =
    let r = coded_back limit [] [] ms cs e refl in
    record {
      different = learnt_different limit [] ms (λ i h. absurd (omega arith));
      within = learnt_within limit [] ms (omega arith);
      named = r.0;
      back = r.1;
    }
