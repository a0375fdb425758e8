-- What was loaded is what will be stored, and what was stored is what will be loaded. Assumes nothing.
use Rattle.std.proofs.Common.{◌≡◌, ℕ, zero, suc, ◌^◌, ◌<◌, ◌≤◌, Bool, true, false, cond, ltb, ◌⊎◌, List, [], ◌∷◌, map, length, get_or, take, drop, IfOk, Ok, Err, Result, sym, refl, ap, ◌∙◌, subst, inl, inr, arith, pow_pos}
use Rattle.std.proofs.lemmas.List.{length-append, length-drop, length-map, take_at}
use Rattle.std.proofs.lemmas.Bool.{cases_Bool}
use Rattle.paging.specs.declared.refusal.Refusal.{Refusal}
use Rattle.paging.specs.declared.refusal.Refusal.TheVariants.{OutputTooShort, CodeWithoutName}
use Rattle.recording.specs.declared.fault.LoadFault.{LoadFault}
use Rattle.recording.specs.Coding.{codes_of, coded_answer, decoded, learnt, names_in, names_laid, names_of, names_recorded, with_records}
use Rattle.names.specs.Lists.{adds, limit_of, listed, with_name}
use Rattle.recording.specs.Reading.{and_then, bytes_for, laid_out}
use Rattle.recording.specs.Standing.{Below, Row}
use Rattle.recording.specs.Writing.{all_named, encoded, named_by, recording, recording_bit, written}
use Rattle.recording.proofs.Bitwise.{length_numbers}
use Rattle.recording.proofs.Codes.{codes_stand, learnt_within}
use Rattle.recording.proofs.Progress.{learnt_more, learnt_none, listed_is}
use Rattle.recording.proofs.Recorded.{names_below, laid}
use Rattle.recording.proofs.Stored.{stored_as_loaded}
use Rattle.evaluator.specs.Stored.{LoadsAs}
use Rattle.evaluator.proofs.Loads.{below_push, never}

learnt_below : (n limit : ℕ) (ns ms : List ℕ) → Below n ns → Below n ms → Below n (learnt limit ns ms)
learnt_below n limit ns [] b c = rw (learnt_none limit ns) b
learnt_below n limit ns (m ∷ ms) b c =
    rw (learnt_more limit ns m ms) (learnt_below n limit (with_name limit ns m) ms (go (cases_Bool (adds limit ns m))) (λ i h. c (suc i) (omega arith)))
  where
    go : (adds limit ns m ≡ true) ⊎ (adds limit ns m ≡ false) → Below n (with_name limit ns m)
    go (inl t) = rw t (below_push n ns m b (c 0 (omega arith)))
    go (inr t) = rw t b

module _ {X : Type 0} (bits : X → ℕ) (make : ℕ → X) (n : ℕ) (back : (m : ℕ) → m < n → bits (make m) ≡ m) where
  bits_made : (ns : List ℕ) → Below n ns → map bits (map make ns) ≡ ns
  bits_made [] b = refl
  bits_made (m ∷ ms) b =
      ap (λ (k : ℕ). k ∷ map bits (map make ms)) (back m (b 0 (omega arith))) ∙ ap (λ (ks : List ℕ). m ∷ ks) (bits_made ms (λ i h. b (suc i) (omega arith)))

  -- a list whose memory has the records of ns in front has the names ns
  listed_records : (ns : List ℕ) (memory : List X) → Below n ns → length ns ≤ limit_of (length memory) →
      listed bits (with_records make ns memory) (length ns) ≡ ns
  listed_records ns memory b h =
      let m : length (map make ns) ≡ length ns = length-map ns make in
      let whole : length (with_records make ns memory) ≡ length memory =
      length-append (map make ns) (drop (length ns) memory) ∙ omega (arith, m, length-drop (length ns) memory) in
      let fits : length ns ≤ limit_of (length (with_records make ns memory)) = subst (λ (k : ℕ). length ns ≤ limit_of k) (sym whole) h in
      listed_is bits (with_records make ns memory) (length ns) fits
      ∙ ap (map bits) (take_at (map make ns) (drop (length ns) memory) (length ns) m) ∙ bits_made ns b

-- an accepted recording is laid out
laid_of : (kind width places : ℕ) (bytes : List ℕ) (count : ℕ) (r : Result ℕ LoadFault) → r ≡ laid_out kind width bytes →
    and_then r (λ n. coded_answer (codes_of (limit_of places) (names_in width bytes n))) ≡ Ok count →
    (n : ℕ) × (laid_out kind width bytes ≡ Ok n) × (names_recorded kind width bytes ≡ names_in width bytes n)
laid_of kind width places bytes count (Ok n) e h = (n, sym e, ap (names_laid width bytes) (sym e))
laid_of kind width places bytes count (Err x) e h = never count x (sym h)

-- the recording of the string and the list that a load leaves is the one that was loaded, and every code has a name
pub load_stores : {X : Type 0} (bits : X → ℕ) (make : ℕ → X) (kind width : ℕ) → kind < 4 → 1 ≤ width → ((m : ℕ) → m < 2 ^ width → bits (make m) ≡ m) →
    (memory memory' : List X) (k count : ℕ) (bytes cs : List ℕ) → Below 256 bytes →
    decoded kind width (length memory) bytes ≡ Ok count →
    codes_of (limit_of (length memory)) (names_recorded kind width bytes) ≡ Ok cs →
    memory' ≡ with_records make (names_of (limit_of (length memory)) (names_recorded kind width bytes)) memory →
    k ≡ length (names_of (limit_of (length memory)) (names_recorded kind width bytes)) →
    (recording kind width (named_by (listed bits memory' k) cs) ≡ bytes) × (all_named (length (listed bits memory' k)) cs ≡ true)
load_stores {X} bits make kind width mark some back memory memory' k count bytes cs low d coded em ek =
    let limit = limit_of (length memory) in
    let l = laid_of kind width (length memory) bytes count (laid_out kind width bytes) refl d in
    let n = l.0 in
    let names = names_in width bytes n in
    let coded' : codes_of limit names ≡ Ok cs = subst (λ (ms : List ℕ). codes_of limit ms ≡ Ok cs) l.2 coded in
    let em' : memory' ≡ with_records make (names_of limit names) memory = subst (λ (ms : List ℕ). memory' ≡ with_records make (names_of limit ms) memory) l.2 em in
    let ek' : k ≡ length (names_of limit names) = subst (λ (ms : List ℕ). k ≡ length (names_of limit ms)) l.2 ek in
    let list : listed bits memory' k ≡ names_of limit names =
    ap (λ (xs : List X). listed bits xs k) em' ∙ ap (listed bits (with_records make (names_of limit names) memory)) ek'
    ∙ listed_records bits make (2 ^ width) back (names_of limit names) memory
    (learnt_below (2 ^ width) limit [] names (λ i h. absurd (omega arith)) (names_below width bytes n)) (learnt_within limit [] names (omega arith)) in (
      ap (λ (ns : List ℕ). recording kind width (named_by ns cs)) list ∙ stored_as_loaded kind width mark some bytes n limit cs low l.1 coded',
      ap (λ (ns : List ℕ). all_named (length ns) cs) list ∙ (codes_stand limit names cs coded').named,
    )

-- what is stored has the layout of a recording, and the names in it are those of the string
module _ {X : Type 0} (bits : X → ℕ) (kind width : ℕ) (mark : kind < 4) (some : 1 ≤ width) (fits : (x : X) → bits x < 2 ^ width) where
  bits_below : (xs : List X) (i : ℕ) → get_or (map bits xs) i 0 < 2 ^ width
  bits_below [] i = pow_pos width
  bits_below (x ∷ xs) zero = fits x
  bits_below (x ∷ xs) (suc i) = bits_below xs i

  named_row : (xs : List X) (s : List ℕ) → length s ≤ 4096 → Row width (named_by (map bits xs) s)
  named_row xs s h = (omega (arith, length-map s (λ c. get_or (map bits xs) c 0)), λ i l. below s i (omega (arith, length-map s (λ c. get_or (map bits xs) c 0))))
    where
      below : (cs : List ℕ) (i : ℕ) → i < length cs → get_or (named_by (map bits xs) cs) i 0 < 2 ^ width
      below [] i l = absurd (omega arith)
      below (c ∷ cs) zero l = bits_below xs c
      below (c ∷ cs) (suc i) l = below cs i (omega arith)

  encoded_count : (a b : Bool) (n m : ℕ) (e x : Refusal) → ◌≡◌ {A = Result ℕ Refusal} (Ok n) (cond a (cond b (Err e) (Ok m)) (Err x)) → n ≡ m
  encoded_count true true n m e x q = let z : ◌≡◌ {A = ℕ} 0 1 = cc in absurd (omega arith)
  encoded_count true false n m e x q = cc
  encoded_count false b n m e x q = let z : ◌≡◌ {A = ℕ} 0 1 = cc in absurd (omega arith)

  pub store_loads : (xs : List X) (s : List ℕ) → length s ≤ 4096 → (old out : List ℕ) (r : Result ℕ Refusal) →
      r ≡ encoded width (map bits xs) s (length old) → out ≡ written r (recording kind width (named_by (map bits xs) s)) old →
      IfOk r (λ n. LoadsAs kind width (named_by (map bits xs) s) (take n out))
  store_loads xs s h old out (Err x) e w = tt
  store_loads xs s h old out (Ok n) e w =
      let ns = named_by (map bits xs) s in
      let m : n ≡ bytes_for width (length s) = encoded_count (all_named (length (map bits xs)) s) (ltb (length old) (bytes_for width (length s))) n (bytes_for width (length s)) OutputTooShort CodeWithoutName e in
      let l : length (recording kind width ns) ≡ n =
      length_numbers (recording_bit kind width ns) 8 0 (bytes_for width (length ns)) ∙ ap (bytes_for width) (length-map s (λ c. get_or (map bits xs) c 0)) ∙ sym m in
      let t : take n out ≡ recording kind width ns = ap (take n) w ∙ take_at (recording kind width ns) (drop n old) n l in
      subst (λ (bytes : List ℕ). LoadsAs kind width ns bytes) (sym t) ((laid kind width mark some).all ns (named_row xs s h))
