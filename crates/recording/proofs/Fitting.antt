-- A row of names finds places exactly if it has no more different names than there are places.
use Rattle.std.proofs.Common.{◌≡◌, ℕ, suc, ◌+◌, ◌<◌, ◌≤◌, false, ◌||◌, ltb, List, [], ◌∷◌, ◌++◌, length, take, Ok, Err, sym, refl, ◌∙◌, ⊎_elim, arith}
use Rattle.std.proofs.lemmas.List.{length_push}
use Rattle.std.proofs.lemmas.Bool.{cases_Bool, cond-true, cond-false, or_parts, ltb-false}
use Rattle.paging.specs.Pages.{has}
use Rattle.names.specs.Lists.{place_in, known, with_name}
use Rattle.names.proofs.Lookups.{known_has, with_within}
use Rattle.recording.specs.Coding.{coded}
use Rattle.recording.specs.Standing.{Fitting}
use Rattle.recording.proofs.Codes.{codes_stand}
use Rattle.recording.proofs.Counted.{outside, outside_none, outside_new, outside_more, names_counted}

-- a name that is refused is outside, and the list has no place left
module _ (limit : ℕ) (ns : List ℕ) (m : ℕ) (t : (known ns m || ltb (length ns) limit) ≡ false) where
  new : has ns m ≡ false
  new = sym (known_has ns m) ∙ (or_parts (known ns m) (ltb (length ns) limit) t).0

  full : limit ≤ length ns
  full = ltb-false _ _ (or_parts (known ns m) (ltb (length ns) limit) t).1

-- names of which no more are outside than have places are all accepted
coded_fits : (limit : ℕ) (ns cs ms : List ℕ) → length ns + outside ns ms ≤ limit → (ds : List ℕ) × (coded limit ns cs ms ≡ Ok ds)
unfolding coded
coded_fits limit ns cs [] h = (cs, refl)
coded_fits limit ns cs (m ∷ ms) h = ⊎_elim
    (λ t.
    let r = coded_fits limit (with_name limit ns m) (cs ++ place_in ns m ∷ []) ms (omega (arith, outside_more limit ns ms m t)) in
    (r.0, cond-true _ _ _ t ∙ r.1))
    (λ t. absurd (omega (arith, full limit ns m t, outside_new ns m (new limit ns m t) ms)))
    (cases_Bool (known ns m || ltb (length ns) limit))

-- where a row stops: so many names before the one that is refused, which fill the list
record Stops (limit : ℕ) (ns cs ms : List ℕ) (p : ℕ) : Type 0 where
  before : ℕ
  place : p ≡ suc (length cs + before)
  within : before < length ms
  fills : length ns + outside ns (take before ms) ≡ limit
  over : length ns + outside ns (take (suc before) ms) ≡ suc limit

coded_stops : (limit : ℕ) (ns cs ms : List ℕ) (p : ℕ) → length ns ≤ limit → coded limit ns cs ms ≡ Err p → Stops limit ns cs ms p
unfolding coded outside
coded_stops limit ns cs [] p h e = absurd (let z : ◌≡◌ {A = ℕ} 0 1 = cc in omega arith)
coded_stops limit ns cs (m ∷ ms) p h e = ⊎_elim
    (λ t.
    let step : coded limit (with_name limit ns m) (cs ++ place_in ns m ∷ []) ms ≡ Err p = sym (cond-true _ _ _ t) ∙ e in
    let r = coded_stops limit (with_name limit ns m) (cs ++ place_in ns m ∷ []) ms p (with_within limit ns m h) step in
    record {
      before = suc r.before;
      place = omega (arith, r.place, length_push cs (place_in ns m));
      within = omega (arith, r.within);
      fills = sym (outside_more limit ns (take r.before ms) m t) ∙ r.fills;
      over = sym (outside_more limit ns (take (suc r.before) ms) m t) ∙ r.over;
    })
    (λ t.
    let o : coded limit ns cs (m ∷ ms) ≡ Err (suc (length cs)) = cond-false _ _ _ t in
    let is : suc (length cs) ≡ p = cc in
    record {
      before = 0;
      place = omega (arith, is);
      within = omega arith;
      fills = omega (arith, full limit ns m t);
      over = omega (arith, full limit ns m t, outside_new ns m (new limit ns m t) []);
    })
    (cases_Bool (known ns m || ltb (length ns) limit))

pub fitting : (limit : ℕ) (ms : List ℕ) → Fitting limit ms
fitting limit ms =
    record {
      accepted = λ h. coded_fits limit [] [] ms (omega (arith, outside_none ms));
      only = λ cs e. omega (arith, names_counted limit ms cs e, (codes_stand limit ms cs e).within);
      refused = λ p e.
          let r = coded_stops limit [] [] ms p (omega arith) e in
          record {
            before = r.before;
            place = omega (arith, r.place);
            within = r.within;
            full = omega (arith, r.fills, outside_none (take r.before ms));
            over = omega (arith, r.over, outside_none (take (suc r.before) ms));
          };
    }
