-- Names looked up one by one: what a list, its memory and the codes come to.
use Rattle.std.proofs.Common.{◌≡◌, ℕ, suc, ◌+◌, ◌-◌, ◌*◌, ◌^◌, ◌<◌, ◌≤◌, Bool, true, false, cond, not, ◌||◌, ltb, List, [], ◌∷◌, ◌++◌, map, length, take, drop, set, Ok, Err, Result, sym, refl, ap, ◌∙◌, ⊎_elim, add-mul, suc-le-suc, zero-le, arith}
use Rattle.std.proofs.lemmas.List.{length-map, length-set, length-take-le, append_assoc, append-nil, drop_more, map_push, set_at, take_all, take-append-drop, drop-append-le, take_more_set}
use Rattle.std.proofs.lemmas.Bool.{cases_Bool, cond-true, cond-false, cond_both, and_right, and_parts, or_parts, le-ltb, ltb-true, ltb-false}
use Rattle.paging.specs.declared.refusal.Refusal.{Refusal}
use Rattle.paging.specs.declared.refusal.Refusal.TheVariants.{NoPlaceForName}
use Rattle.recording.specs.Bits.{bit_of, number_at, numbers_at}
use Rattle.names.specs.Lists.{place_in, known, adds, with_name, limit_of, look_answer, held, listed, looked_up, looked_count, looked_memory}
use Rattle.recording.specs.Coding.{coded, accepted, codes_before, with_codes, learnt, codes_of, names_of, names_in, coded_answer, with_records, at_place, names_laid, names_recorded, decoded}
use Rattle.recording.specs.declared.fault.LoadFault.{LoadFault}
use Rattle.recording.specs.Reading.{by_names, and_then, laid_out}
use Rattle.recording.proofs.Bitwise.{number_below, bit_below, numbers_more, numbers_none, length_numbers}
use Rattle.names.proofs.Places.{length_listed}
use Rattle.names.proofs.Lookups.{listed_push}

-- where reading the names of a recording of so many stands after i of them
pub record Progress {X : Type 0} (f : X → ℕ) (make : ℕ → X) (w : ℕ) (bytes : List ℕ) (count : ℕ) (start : List X) (old : List ℕ) (i at : ℕ) (mem : List X) (k : ℕ) (codes : List ℕ) : Type 0 where
  pub place : at ≡ 24 + i * w
  pub size : length mem ≡ length start
  pub within : k ≤ limit_of (length start)
  pub sized : length old ≡ count
  pub wide : length codes ≡ length old
  pub memory : mem ≡ map make (listed f mem k) ++ drop k start
  pub untouched : codes ≡ take i codes ++ drop i old
  pub accepted_so : take i codes ++ accepted (limit_of (length start)) (listed f mem k) (numbers_at (bit_of 8 bytes) w at (count - i)) ≡ codes_before (limit_of (length start)) (names_in w bytes count)
  pub coded_so : coded (limit_of (length start)) (listed f mem k) (take i codes) (numbers_at (bit_of 8 bytes) w at (count - i)) ≡ codes_of (limit_of (length start)) (names_in w bytes count)
  pub learnt_so : learnt (limit_of (length start)) (listed f mem k) (numbers_at (bit_of 8 bytes) w at (count - i)) ≡ names_of (limit_of (length start)) (names_in w bytes count)

pub coded_more : (limit : ℕ) (ns cs : List ℕ) (m : ℕ) (ms : List ℕ) → coded limit ns cs (m ∷ ms) ≡ cond (known ns m || ltb (length ns) limit) (coded limit (with_name limit ns m) (cs ++ place_in ns m ∷ []) ms) (Err (suc (length cs)))
unfolding coded
coded_more limit ns cs m ms = refl

pub coded_none : (limit : ℕ) (ns cs : List ℕ) → coded limit ns cs [] ≡ Ok cs
unfolding coded
coded_none limit ns cs = refl

accepted_more : (limit : ℕ) (ns : List ℕ) (m : ℕ) (ms : List ℕ) → accepted limit ns (m ∷ ms) ≡ cond (known ns m || ltb (length ns) limit) (place_in ns m ∷ accepted limit (with_name limit ns m) ms) []
unfolding accepted
accepted_more limit ns m ms = refl

accepted_none : (limit : ℕ) (ns : List ℕ) → accepted limit ns [] ≡ []
unfolding accepted
accepted_none limit ns = refl

pub learnt_more : (limit : ℕ) (ns : List ℕ) (m : ℕ) (ms : List ℕ) → learnt limit ns (m ∷ ms) ≡ learnt limit (with_name limit ns m) ms
unfolding learnt
learnt_more limit ns m ms = refl

pub learnt_none : (limit : ℕ) (ns : List ℕ) → learnt limit ns [] ≡ ns
unfolding learnt
learnt_none limit ns = refl

-- a full list learns nothing more
pub learnt_full : (limit : ℕ) (ns ms : List ℕ) → limit ≤ length ns → learnt limit ns ms ≡ ns
unfolding learnt
learnt_full limit ns [] h = refl
learnt_full limit ns (m ∷ ms) h =
    let t : ltb (length ns) limit ≡ false = le-ltb _ _ h in
    let a : adds limit ns m ≡ false = and_right (not (known ns m)) (ltb (length ns) limit) t in
    let e : with_name limit ns m ≡ ns = cond-false _ _ _ a in
    ap (λ (xs : List ℕ). learnt limit xs ms) e ∙ learnt_full limit ns ms h

pub listed_is : {X : Type 0} (f : X → ℕ) (mem : List X) (k : ℕ) → k ≤ limit_of (length mem) → listed f mem k ≡ map f (take k mem)
listed_is {X} f mem k h =
    let e : held (length mem) k ≡ k = omega arith in
    ap (λ (n : ℕ). map f (take n mem)) e

pub listed_length : {X : Type 0} (f : X → ℕ) (mem : List X) (k : ℕ) → k ≤ limit_of (length mem) → length (listed f mem k) ≡ k
listed_length f mem k h = let e = length_listed f mem k in omega arith

-- a write right behind the front of a list
pub set_behind : {X : Type 0} (front start : List X) (k : ℕ) (x : X) → length front ≡ k → k < length start → set (front ++ drop k start) k x ≡ (front ++ x ∷ []) ++ drop (k + 1) start
set_behind {X} front start k x l h =
    ap (λ (ys : List X). set (front ++ ys) k x) (drop_more start k x h)
    ∙ set_at front _ (drop (k + 1) start) x k l
    ∙ sym (append_assoc front (x ∷ []) (drop (k + 1) start))

-- a look-up that adds a record, in a list whose count is within its limit
memory_push : {X : Type 0} (f : X → ℕ) (make : ℕ → X) (start mem : List X) (k n : ℕ) → length mem ≡ length start → k < limit_of (length start) → mem ≡ map make (listed f mem k) ++ drop k start → set mem k (make n) ≡ map make (listed f mem k ++ n ∷ []) ++ drop (k + 1) start
memory_push {X} f make start mem k n size room memory =
    let l : k < length start = omega arith in
    let lf : length (map make (listed f mem k)) ≡ k = length-map (listed f mem k) make ∙ listed_length f mem k (omega arith) in
    ap (λ (ys : List X). set ys k (make n)) memory
    ∙ set_behind (map make (listed f mem k)) start k (make n) lf l
    ∙ ap (λ (ys : List X). ys ++ drop (k + 1) start) (sym (map_push make (listed f mem k) n))

-- a look-up answers a code only if the name is known or has room, and adds it only if it is new and has room
pub looked_ok : (limit : ℕ) (ns : List ℕ) (m c : ℕ) → look_answer limit ns m ≡ Ok c → ((known ns m || ltb (length ns) limit) ≡ true) × (c ≡ place_in ns m)
looked_ok limit ns m c e = ⊎_elim
    (λ t. let o : Ok (place_in ns m) ≡ look_answer limit ns m = rw t in (t, cc))
    (λ t. let o : Err NoPlaceForName ≡ look_answer limit ns m = rw t in absurd (let z : ◌≡◌ {A = ℕ} 0 1 = cc in omega arith))
    (cases_Bool (known ns m || ltb (length ns) limit))

pub looked_err : (limit : ℕ) (ns : List ℕ) (m : ℕ) (r : Refusal) → look_answer limit ns m ≡ Err r → ((known ns m || ltb (length ns) limit) ≡ false) × (r ≡ NoPlaceForName) × (limit ≤ length ns)
looked_err limit ns m r e = ⊎_elim
    (λ t. let o : Ok (place_in ns m) ≡ look_answer limit ns m = rw t in absurd (let z : ◌≡◌ {A = ℕ} 0 1 = cc in omega arith))
    (λ t. let o : Err NoPlaceForName ≡ look_answer limit ns m = rw t in (t, cc, ltb-false _ _ (or_parts (known ns m) (ltb (length ns) limit) t).1))
    (cases_Bool (known ns m || ltb (length ns) limit))

pub placed_ok : (p c : ℕ) (r : Result ℕ Refusal) → at_place p r ≡ Ok c → r ≡ Ok c
placed_ok p c (Ok x) e = cc
placed_ok p c (Err x) e = absurd (let z : ◌≡◌ {A = ℕ} 0 1 = cc in omega arith)

pub placed_err : (p : ℕ) (f : LoadFault) (r : Result ℕ Refusal) → at_place p r ≡ Err f → (x : Refusal) × (r ≡ Err x) × (f ≡ by_names x p)
placed_err p f (Ok x) e = absurd (let z : ◌≡◌ {A = ℕ} 0 1 = cc in omega arith)
placed_err p f (Err x) e = (x, refl, cc)

-- a list and its memory after one name more
pub record Looked {X : Type 0} (f : X → ℕ) (make : ℕ → X) (start : List X) (ns : List ℕ) (mem : List X) (k : ℕ) : Type 0 where
  pub size : length mem ≡ length start
  pub within : k ≤ limit_of (length start)
  pub memory : mem ≡ map make (listed f mem k) ++ drop k start
  pub names : listed f mem k ≡ ns

-- a list and its memory where the names of a recording have been looked up
pub record Ended {X : Type 0} (make : ℕ → X) (w : ℕ) (bytes : List ℕ) (count : ℕ) (start mem : List X) (k : ℕ) : Type 0 where
  pub counts : k ≡ length (names_of (limit_of (length start)) (names_in w bytes count))
  pub records : mem ≡ with_records make (names_of (limit_of (length start)) (names_in w bytes count)) start

ended : {X : Type 0} (f : X → ℕ) (make : ℕ → X) (w : ℕ) (bytes : List ℕ) (count : ℕ) (start mem : List X) (k : ℕ) → length mem ≡ length start → k ≤ limit_of (length start) → mem ≡ map make (listed f mem k) ++ drop k start → listed f mem k ≡ names_of (limit_of (length start)) (names_in w bytes count) → Ended make w bytes count start mem k
ended f make w bytes count start mem k size within memory names =
    let all = names_of (limit_of (length start)) (names_in w bytes count) in
    let c : k ≡ length all = sym (listed_length f mem k (rw size within)) ∙ ap length names in
    record { counts = c; records = memory ∙ ap (λ (ns : List ℕ). map make ns ++ drop k start) names ∙ ap (λ (j : ℕ). map make all ++ drop j start) c }

-- where no more codes are accepted, those that were stand in front of what the memory of the codes had
codes_ended : {X : Type 0} (f : X → ℕ) (make : ℕ → X) (w : ℕ) (bytes : List ℕ) (count : ℕ) (start : List X) (old : List ℕ) (i at : ℕ) (mem : List X) (k : ℕ) (codes : List ℕ) → Progress f make w bytes count start old i at mem k codes → i ≤ count → accepted (limit_of (length start)) (listed f mem k) (numbers_at (bit_of 8 bytes) w at (count - i)) ≡ [] → codes ≡ with_codes (codes_before (limit_of (length start)) (names_in w bytes count)) old
codes_ended f make w bytes count start old i at mem k codes so few none =
    let all : take i codes ≡ codes_before (limit_of (length start)) (names_in w bytes count) = sym (append-nil (take i codes)) ∙ ap (λ (cs : List ℕ). take i codes ++ cs) (sym none) ∙ so.accepted_so in
    let n : i ≡ length (codes_before (limit_of (length start)) (names_in w bytes count)) = sym (length-take-le i codes (omega (arith, so.wide, so.sized))) ∙ ap length all in
    so.untouched ∙ ap (λ (cs : List ℕ). cs ++ drop i old) all ∙ ap (λ (j : ℕ). codes_before (limit_of (length start)) (names_in w bytes count) ++ drop j old) n

-- one name more
module _ {X : Type 0} (f : X → ℕ) (make : ℕ → X) (w : ℕ) (back : (n : ℕ) → n < 2 ^ w → f (make n) ≡ n) (bytes : List ℕ) (count : ℕ) (start : List X) (old : List ℕ) (i at : ℕ) (mem : List X) (k : ℕ) (codes : List ℕ) (so : Progress f make w bytes count start old i at mem k codes) (turn : i < count) where
  number_back : f (make (number_at (bit_of 8 bytes) at w)) ≡ number_at (bit_of 8 bytes) at w
  number_back = back _ (number_below (bit_of 8 bytes) (bit_below 8 bytes) at w)

  looked_case : (b : Bool) → adds (limit_of (length start)) (listed f mem k) (number_at (bit_of 8 bytes) at w) ≡ b → Looked f make start (with_name (limit_of (length start)) (listed f mem k) (number_at (bit_of 8 bytes) at w)) (cond b (set mem k (make (number_at (bit_of 8 bytes) at w))) mem) (cond b (k + 1) k)
  looked_case true t =
      let n = number_at (bit_of 8 bytes) at w in
      let lk = listed_length f mem k (rw so.size so.within) in
      let room : k < limit_of (length start) = omega (arith, lk, ltb-true _ _ (and_parts (not (known (listed f mem k) n)) (ltb (length (listed f mem k)) (limit_of (length start))) t).1) in
      let h : held (length mem) k ≡ k = omega (arith, so.size, so.within) in
      let p : listed f (set mem k (make n)) (k + 1) ≡ listed f mem k ++ n ∷ [] =
      ap (λ (j : ℕ). listed f (set mem j (make n)) (j + 1)) (sym h) ∙ listed_push f mem k (make n) (omega (arith, so.size)) ∙ ap (λ (y : ℕ). listed f mem k ++ y ∷ []) number_back in
      let m = memory_push f make start mem k n so.size room so.memory in
      let e : with_name (limit_of (length start)) (listed f mem k) n ≡ listed f mem k ++ n ∷ [] = cond-true _ _ _ t in
      record {
        size = length-set mem k (make n) ∙ so.size;
        within = omega arith;
        memory = m ∙ ap (λ (ns : List ℕ). map make ns ++ drop (k + 1) start) (sym p);
        names = p ∙ sym e;
      }
  looked_case false t =
      record { size = so.size; within = so.within; memory = so.memory; names = sym (cond-false _ _ _ t) }

  pub looked_more : (mem' : List X) (k' : ℕ) → mem' ≡ looked_memory f mem k (make (number_at (bit_of 8 bytes) at w)) → k' ≡ looked_count f mem k (make (number_at (bit_of 8 bytes) at w)) → Looked f make start (with_name (limit_of (length start)) (listed f mem k) (number_at (bit_of 8 bytes) at w)) mem' k'
  looked_more mem' k' em ek =
      let n = number_at (bit_of 8 bytes) at w in
      let ns = listed f mem k in
      let b = adds (limit_of (length start)) ns n in
      let h : held (length mem) k ≡ k = omega (arith, so.size, so.within) in
      let t : adds (limit_of (length mem)) ns (f (make n)) ≡ b = ap (λ (s : ℕ). adds (limit_of s) ns (f (make n))) so.size ∙ ap (adds (limit_of (length start)) ns) number_back in
      let m : mem' ≡ cond b (set mem k (make n)) mem = em ∙ ap (λ (v : Bool). cond v (set mem (held (length mem) k) (make n)) mem) t ∙ ap (λ (j : ℕ). cond b (set mem j (make n)) mem) h in
      let q : k' ≡ cond b (k + 1) k = ek ∙ ap (λ (v : Bool). cond v (held (length mem) k + 1) (held (length mem) k)) t ∙ ap (λ (j : ℕ). cond b (j + 1) j) h in
      rw (m, q) (looked_case b refl)

  answer_is : looked_up f mem k (make (number_at (bit_of 8 bytes) at w)) ≡ look_answer (limit_of (length start)) (listed f mem k) (number_at (bit_of 8 bytes) at w)
  answer_is =
      let n = number_at (bit_of 8 bytes) at w in
      let ns = listed f mem k in
      ap (λ (s : ℕ). look_answer (limit_of s) ns (f (make n))) so.size ∙ ap (look_answer (limit_of (length start)) ns) number_back

  pub progress_more : (at' : ℕ) (mem' : List X) (k' : ℕ) (codes' : List ℕ) (c : ℕ) → at' ≡ at + w → mem' ≡ looked_memory f mem k (make (number_at (bit_of 8 bytes) at w)) → k' ≡ looked_count f mem k (make (number_at (bit_of 8 bytes) at w)) → looked_up f mem k (make (number_at (bit_of 8 bytes) at w)) ≡ Ok c → codes' ≡ set codes i c → Progress f make w bytes count start old (i + 1) at' mem' k' codes'
  progress_more at' mem' k' codes' c ea em ek el ec =
      let n = number_at (bit_of 8 bytes) at w in
      let ns = listed f mem k in
      let limit = limit_of (length start) in
      let rest = numbers_at (bit_of 8 bytes) w at' (count - (i + 1)) in
      let q = looked_more mem' k' em ek in
      let o = looked_ok limit ns n c (sym answer_is ∙ el) in
      let wide : i < length codes = omega (arith, so.wide, so.sized) in
      let written : take (i + 1) codes' ≡ take i codes ++ place_in ns n ∷ [] = ap (take (i + 1)) ec ∙ take_more_set codes i c wide ∙ ap (λ (r : ℕ). take i codes ++ r ∷ []) o.1 in
      let row : numbers_at (bit_of 8 bytes) w at (count - i) ≡ n ∷ rest = numbers_more (bit_of 8 bytes) w at i count turn ∙ ap (λ (j : ℕ). n ∷ numbers_at (bit_of 8 bytes) w j (count - (i + 1))) (sym ea) in
      let lt : length (take i codes) ≡ i = length-take-le i codes (omega arith) in
      let behind : codes' ≡ (take i codes ++ c ∷ []) ++ drop (i + 1) old = ec ∙ ap (λ (cs : List ℕ). set cs i c) so.untouched ∙ set_behind (take i codes) old i c lt (omega (arith, so.wide, so.sized)) in
      let step : coded limit ns (take i codes) (n ∷ rest) ≡ coded limit (with_name limit ns n) (take i codes ++ place_in ns n ∷ []) rest = coded_more limit ns (take i codes) n rest ∙ cond-true _ _ _ o.0 in
      record {
        place = omega (arith, so.place, add-mul i 1 w);
        size = q.size;
        within = q.within;
        sized = so.sized;
        wide = ap length ec ∙ length-set codes i c ∙ so.wide;
        memory = q.memory;
        untouched = behind ∙ ap (λ (cs : List ℕ). cs ++ drop (i + 1) old) (sym (ap (take (i + 1)) ec ∙ take_more_set codes i c wide));
        accepted_so = ap (λ (xs : List ℕ). take (i + 1) codes' ++ accepted limit xs rest) q.names ∙ ap (λ (cs : List ℕ). cs ++ accepted limit (with_name limit ns n) rest) written ∙ append_assoc (take i codes) (place_in ns n ∷ []) (accepted limit (with_name limit ns n) rest) ∙ ap (λ (cs : List ℕ). take i codes ++ cs) (sym (accepted_more limit ns n rest ∙ cond-true _ _ _ o.0)) ∙ ap (λ (ms : List ℕ). take i codes ++ accepted limit ns ms) (sym row) ∙ so.accepted_so;
        coded_so = ap (λ (xs : List ℕ). coded limit xs (take (i + 1) codes') rest) q.names ∙ ap (λ (cs : List ℕ). coded limit (with_name limit ns n) cs rest) written ∙ sym step ∙ ap (coded limit ns (take i codes)) (sym row) ∙ so.coded_so;
        learnt_so = ap (λ (xs : List ℕ). learnt limit xs rest) q.names ∙ sym (learnt_more limit ns n rest) ∙ ap (learnt limit ns) (sym row) ∙ so.learnt_so;
      }

  pub progress_refused : (mem' : List X) (k' : ℕ) (r : Refusal) → mem' ≡ looked_memory f mem k (make (number_at (bit_of 8 bytes) at w)) → k' ≡ looked_count f mem k (make (number_at (bit_of 8 bytes) at w)) → looked_up f mem k (make (number_at (bit_of 8 bytes) at w)) ≡ Err r → (Err (by_names r (i + 1)) ≡ coded_answer (codes_of (limit_of (length start)) (names_in w bytes count))) × Ended make w bytes count start mem' k' × (codes ≡ with_codes (codes_before (limit_of (length start)) (names_in w bytes count)) old)
  progress_refused mem' k' r em ek el =
      let n = number_at (bit_of 8 bytes) at w in
      let ns = listed f mem k in
      let limit = limit_of (length start) in
      let rest = numbers_at (bit_of 8 bytes) w (at + w) (count - (i + 1)) in
      let q = looked_more mem' k' em ek in
      let o = looked_err limit ns n r (sym answer_is ∙ el) in
      let row = numbers_more (bit_of 8 bytes) w at i count turn in
      let lc : suc (length (take i codes)) ≡ i + 1 = omega (arith, length-take-le i codes (omega (arith, so.wide, so.sized))) in
      let refused : codes_of limit (names_in w bytes count) ≡ Err (i + 1) = sym so.coded_so ∙ ap (coded limit ns (take i codes)) row ∙ coded_more limit ns (take i codes) n rest ∙ cond-false _ _ _ o.0 ∙ ap Err lc in
      let all : ns ≡ names_of limit (names_in w bytes count) = sym (learnt_full limit ns (n ∷ rest) o.2) ∙ ap (learnt limit ns) (sym row) ∙ so.learnt_so in
      let none : accepted limit ns (numbers_at (bit_of 8 bytes) w at (count - i)) ≡ [] = ap (accepted limit ns) row ∙ accepted_more limit ns n rest ∙ cond-false _ _ _ o.0 in
      let same : with_name limit ns n ≡ ns = cond-false _ _ _ (and_right (not (known ns n)) (ltb (length ns) limit) (le-ltb _ _ o.2)) in
      (ap (λ (e : Refusal). Err (by_names e (i + 1))) o.1 ∙ ap coded_answer (sym refused), ended f make w bytes count start mem' k' q.size q.within q.memory (q.names ∙ same ∙ all), codes_ended f make w bytes count start old i at mem k codes so (omega arith) none)

  -- the same, with what the reader holds and the refusal by its place
  module _ (read : List ℕ) (er : read ≡ bytes) (mem' : List X) (k' : ℕ) (em : mem' ≡ looked_memory f mem k (make (number_at (bit_of 8 read) at w))) (ek : k' ≡ looked_count f mem k (make (number_at (bit_of 8 read) at w))) where
    en : number_at (bit_of 8 read) at w ≡ number_at (bit_of 8 bytes) at w
    en = ap (λ (bs : List ℕ). number_at (bit_of 8 bs) at w) er

    pub turn_more : (at' : ℕ) (codes' : List ℕ) (c : ℕ) (r : Result ℕ LoadFault) → at' ≡ at + w → r ≡ at_place (i + 1) (looked_up f mem k (make (number_at (bit_of 8 read) at w))) → r ≡ Ok c → codes' ≡ set codes i c → Progress f make w bytes count start old (i + 1) at' mem' k' codes'
    turn_more at' codes' c r ea er' el ec =
        progress_more at' mem' k' codes' c ea
        (em ∙ ap (λ n. looked_memory f mem k (make n)) en) (ek ∙ ap (λ n. looked_count f mem k (make n)) en)
        (placed_ok _ _ _ (ap (λ n. at_place (i + 1) (looked_up f mem k (make n))) (sym en) ∙ sym er' ∙ el)) ec

    pub turn_refused : (e : LoadFault) (r : Result ℕ LoadFault) → r ≡ at_place (i + 1) (looked_up f mem k (make (number_at (bit_of 8 read) at w))) → r ≡ Err e → (Err e ≡ coded_answer (codes_of (limit_of (length start)) (names_in w bytes count))) × Ended make w bytes count start mem' k' × (codes ≡ with_codes (codes_before (limit_of (length start)) (names_in w bytes count)) old)
    turn_refused e r er' el =
        let s = placed_err _ _ _ (ap (λ n. at_place (i + 1) (looked_up f mem k (make n))) (sym en) ∙ sym er' ∙ el) in
        let q = progress_refused mem' k' s.0 (em ∙ ap (λ n. looked_memory f mem k (make n)) en) (ek ∙ ap (λ n. looked_count f mem k (make n)) en) s.1 in
        (ap Err s.2 ∙ q.0, q.1, q.2)

-- no name is left
module _ {X : Type 0} (f : X → ℕ) (make : ℕ → X) (w : ℕ) (bytes : List ℕ) (count : ℕ) (start : List X) (old : List ℕ) (i at : ℕ) (mem : List X) (k : ℕ) (codes : List ℕ) (so : Progress f make w bytes count start old i at mem k codes) (is : i ≡ count) where
  pub progress_codes : codes_of (limit_of (length start)) (names_in w bytes count) ≡ Ok codes
  progress_codes =
      sym so.coded_so
      ∙ ap (coded (limit_of (length start)) (listed f mem k) (take i codes)) (numbers_none (bit_of 8 bytes) w at i count (omega arith))
      ∙ coded_none (limit_of (length start)) (listed f mem k) (take i codes)
      ∙ ap Ok (take_all i codes (omega (arith, so.wide, so.sized)))

  pub progress_answer : Ok (length codes) ≡ coded_answer (codes_of (limit_of (length start)) (names_in w bytes count))
  progress_answer = ap coded_answer (sym progress_codes)

  pub progress_written : codes ≡ with_codes (codes_before (limit_of (length start)) (names_in w bytes count)) old
  progress_written =
      codes_ended f make w bytes count start old i at mem k codes so (omega arith)
      (ap (accepted (limit_of (length start)) (listed f mem k)) (numbers_none (bit_of 8 bytes) w at i count (omega arith)) ∙ accepted_none (limit_of (length start)) (listed f mem k))

  pub progress_ended : Ended make w bytes count start mem k
  progress_ended =
      let all : listed f mem k ≡ names_of (limit_of (length start)) (names_in w bytes count) = sym (learnt_none (limit_of (length start)) (listed f mem k)) ∙ ap (learnt (limit_of (length start)) (listed f mem k)) (sym (numbers_none (bit_of 8 bytes) w at i count (omega arith))) ∙ so.learnt_so in
      ended f make w bytes count start mem k so.size so.within so.memory all

-- a refused layout is the outcome, and leaves both memories as they were
pub refused_layout : {X : Type 0} (make : ℕ → X) (kind width size : ℕ) (bytes : List ℕ) (start : List X) (old : List ℕ) (e : LoadFault) → laid_out kind width bytes ≡ Err e → (Err e ≡ decoded kind width size bytes) × (start ≡ with_records make (names_of (limit_of size) (names_recorded kind width bytes)) start) × (old ≡ with_codes (codes_before (limit_of size) (names_recorded kind width bytes)) old)
refused_layout {X} make kind width size bytes start old e r =
    let a : decoded kind width size bytes ≡ Err e = ap (λ (x : Result ℕ LoadFault). and_then x (λ n. coded_answer (codes_of (limit_of size) (names_in width bytes n)))) r in
    let n : names_of (limit_of size) (names_recorded kind width bytes) ≡ [] = ap (λ (x : Result ℕ LoadFault). names_of (limit_of size) (names_laid width bytes x)) r ∙ learnt_none (limit_of size) [] in
    let c : codes_before (limit_of size) (names_recorded kind width bytes) ≡ [] = ap (λ (x : Result ℕ LoadFault). codes_before (limit_of size) (names_laid width bytes x)) r ∙ accepted_none (limit_of size) [] in
    (sym a, ap (λ (ns : List ℕ). with_records make ns start) (sym n), ap (λ (cs : List ℕ). with_codes cs old) (sym c))

-- no more codes are accepted than there are names
accepted_few : (limit : ℕ) (ns ms : List ℕ) → length (accepted limit ns ms) ≤ length ms
unfolding accepted
accepted_few limit ns [] = zero-le
accepted_few limit ns (m ∷ ms) =
    cond_both (known ns m || ltb (length ns) limit) (place_in ns m ∷ accepted limit (with_name limit ns m) ms) [] (λ cs. length cs ≤ suc (length ms)) (λ _. suc-le-suc (accepted_few limit (with_name limit ns m) ms)) (λ _. zero-le)

-- codes that were written into the front of a memory
pub written_in_front : (kind w size size' : ℕ) (bytes : List ℕ) (n : ℕ) (old part : List ℕ) → laid_out kind w bytes ≡ Ok n → size' ≡ size → n ≤ length old →
    part ≡ with_codes (codes_before (limit_of size') (names_in w bytes (length (take n old)))) (take n old) → part ++ drop n old ≡ with_codes (codes_before (limit_of size) (names_recorded kind w bytes)) old
written_in_front kind w size size' bytes n old part laid same h e =
    let l : length (take n old) ≡ n = length-take-le n old h in
    let names : names_in w bytes (length (take n old)) ≡ names_recorded kind w bytes = ap (names_in w bytes) l ∙ sym (ap (names_laid w bytes) laid) in
    let cs = codes_before (limit_of size) (names_recorded kind w bytes) in
    let is : codes_before (limit_of size') (names_in w bytes (length (take n old))) ≡ cs = ap (λ (s : ℕ). codes_before (limit_of s) (names_in w bytes (length (take n old)))) same ∙ ap (codes_before (limit_of size)) names in
    let few : length cs ≤ length (take n old) = rw (← is) (omega (arith, accepted_few (limit_of size') [] (names_in w bytes (length (take n old))), length_numbers (bit_of 8 bytes) w 24 (length (take n old)))) in
    ap (λ (xs : List ℕ). xs ++ drop n old) (e ∙ ap (λ (ds : List ℕ). with_codes ds (take n old)) is)
    ∙ append_assoc cs (drop (length cs) (take n old)) (drop n old)
    ∙ ap (λ (xs : List ℕ). cs ++ xs) (sym (drop-append-le (length cs) (take n old) (drop n old) few) ∙ ap (drop (length cs)) (take-append-drop n old))
