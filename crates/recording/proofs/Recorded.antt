-- Bytes pass the questions about the layout exactly if they are the recording of a row of names.
use Rattle.std.proofs.Common.{◌≡◌, ℕ, ◌+◌, ◌-◌, ◌*◌, ◌/◌, ◌%◌, ◌^◌, ◌<◌, ◌≤◌, Bool, true, false, ◌&&◌, eqb, leb, List, length, Ok, Err, Result, sym, refl, ap, ◌∙◌, ⊎_elim, div-add-mod', arith}
use Rattle.std.proofs.lemmas.Nat.{div_below, le-div, mod_below}
use Rattle.std.proofs.lemmas.List.{get_or_past}
use Rattle.std.proofs.lemmas.Bool.{cases_lt, cond-true, cond-false, and_parts, lt-ltb, le-ltb, le-leb, leb-true, eq-eqb, eqb-true}
use Rattle.recording.specs.declared.fault.LoadFault.{LoadFault}
use Rattle.recording.specs.Bits.{bit_in, bit_of, number_at, numbers_at}
use Rattle.recording.specs.Reading.{asked, and_then, marked, counted, head, body, bytes_for, spare, laid_out}
use Rattle.recording.specs.Coding.{names_in}
use Rattle.recording.specs.Writing.{front_number, recording_bit, recording}
use Rattle.recording.specs.Standing.{Below, Laid}
use Rattle.recording.proofs.Bitwise.{number_below, bit_below, number_same, length_numbers, zero_bit}
use Rattle.recording.proofs.Written.{recording_bit_below}
use Rattle.recording.proofs.Rows.{bit_of_number, number_of_bits, number_zero, number_24, getd_numbers, numbers_same, row_of_bits, bits_of_row}

-- a question was answered with yes
asked_ok : (b : Bool) (f : LoadFault) (r : Result ℕ LoadFault) (n : ℕ) → asked b f r ≡ Ok n → (b ≡ true) × (r ≡ Ok n)
asked_ok true f r n e = (refl, e)
asked_ok false f r n e = absurd (let z : ◌≡◌ {A = ℕ} 0 1 = cc in omega arith)

and_then_ok : (r : Result ℕ LoadFault) (g : ℕ → Result ℕ LoadFault) (n : ℕ) → and_then r g ≡ Ok n → (m : ℕ) × (r ≡ Ok m) × (g m ≡ Ok n)
and_then_ok (Ok m) g n e = (m, refl, e)
and_then_ok (Err f) g n e = absurd (let z : ◌≡◌ {A = ℕ} 0 1 = cc in omega arith)

-- what the bytes of an accepted layout hold
pub record Facts (kind width : ℕ) (bytes : List ℕ) (n : ℕ) : Type 0 where
  pub version : number_at (bit_of 8 bytes) 0 4 ≡ 1
  pub kind_is : number_at (bit_of 8 bytes) 4 2 ≡ kind
  pub zeros : number_at (bit_of 8 bytes) 6 2 ≡ 0
  pub count : number_at (bit_of 8 bytes) 8 16 ≡ n
  pub most : n ≤ 4096
  pub size : length bytes ≡ bytes_for width n
  pub rest : spare width n bytes ≡ 0

facts : (kind width : ℕ) (bytes : List ℕ) (n : ℕ) → laid_out kind width bytes ≡ Ok n → Facts kind width bytes n
facts kind width bytes n e =
    let t = and_then_ok (head kind bytes) (body width bytes) n e in
    let q1 = asked_ok (leb 3 (length bytes)) _ _ _ t.1 in
    let q2 = asked_ok (marked kind bytes) _ _ _ q1.1 in
    let q3 = asked_ok (leb (counted bytes) 4096) _ _ _ q2.1 in
    let q4 = asked_ok (eqb (length bytes) (bytes_for width t.0)) _ _ _ t.2 in
    let q5 = asked_ok (eqb (spare width t.0 bytes) 0) _ _ _ q4.1 in
    let is : counted bytes ≡ t.0 = let o = q3.1 in cc in
    let same : t.0 ≡ n = let o = q5.1 in cc in
    let m1 = and_parts (eqb (number_at (bit_of 8 bytes) 0 4) 1) (eqb (number_at (bit_of 8 bytes) 4 2) kind && eqb (number_at (bit_of 8 bytes) 6 2) 0) q2.0 in
    let m2 = and_parts (eqb (number_at (bit_of 8 bytes) 4 2) kind) (eqb (number_at (bit_of 8 bytes) 6 2) 0) m1.1 in
    record {
      version = eqb-true _ _ m1.0;
      kind_is = eqb-true _ _ m2.0;
      zeros = eqb-true _ _ m2.1;
      count = is ∙ same;
      most = omega (arith, leb-true _ _ q3.0);
      size = eqb-true _ _ q4.0 ∙ ap (bytes_for width) same;
      rest = ap (λ (k : ℕ). spare width k bytes) (sym same) ∙ eqb-true _ _ q5.0;
    }

accepted : (kind width : ℕ) (bytes : List ℕ) (n : ℕ) → Facts kind width bytes n → laid_out kind width bytes ≡ Ok n
accepted kind width bytes n so =
    let q1 : leb 3 (length bytes) ≡ true = le-leb 3 (length bytes) (omega (arith, so.size)) in
    let m1 = eq-eqb _ _ so.version in
    let m2 = eq-eqb _ _ so.kind_is in
    let m3 = eq-eqb _ _ so.zeros in
    let q2 : marked kind bytes ≡ true = rw (m1, m2, m3) in
    let q3 : leb (counted bytes) 4096 ≡ true = le-leb _ _ (omega (arith, so.count, so.most)) in
    let h : head kind bytes ≡ Ok n = cond-true _ _ _ q1 ∙ cond-true _ _ _ q2 ∙ cond-true _ _ _ q3 ∙ ap Ok so.count in
    let q4 : eqb (length bytes) (bytes_for width n) ≡ true = eq-eqb _ _ so.size in
    let q5 : eqb (spare width n bytes) 0 ≡ true = eq-eqb _ _ so.rest in
    let b : body width bytes n ≡ Ok n = cond-true _ _ _ q4 ∙ cond-true _ _ _ q5 in
    ap (λ (r : Result ℕ LoadFault). and_then r (body width bytes)) h ∙ b

-- every bit of an accepted recording is the bit of the recording of its names
module _ (kind width : ℕ) (pos : 1 ≤ width) (bytes : List ℕ) (n : ℕ) (so : Facts kind width bytes n) where
  in_front : number_at (bit_of 8 bytes) 0 24 ≡ front_number kind (length (names_in width bytes n))
  in_front =
      let l = length_numbers (bit_of 8 bytes) width 24 n in
      let s = number_24 (bit_of 8 bytes) in
      omega (arith, so.version, so.kind_is, so.zeros, so.count)

  front_bits : (i : ℕ) → i < 24 → bit_of 8 bytes i ≡ recording_bit kind width (names_in width bytes n) i
  front_bits i h =
      let z : 0 + i ≡ i = omega arith in
      ap (bit_of 8 bytes) (sym z)
      ∙ sym (bit_of_number (bit_of 8 bytes) (bit_below 8 bytes) 0 24 i h)
      ∙ ap (λ (x : ℕ). bit_in 24 x i) in_front
      ∙ sym (cond-true _ _ _ (lt-ltb i 24 h))

  name_bits : (i : ℕ) → 24 ≤ i → i < 24 + n * width → bit_of 8 bytes i ≡ recording_bit kind width (names_in width bytes n) i
  name_bits i h l =
      let q : (i - 24) / width < n = div_below (i - 24) width n pos (omega arith) in
      let r : (i - 24) % width < width = mod_below (i - 24) width pos in
      let e = div-add-mod' (i - 24) width in
      ap (bit_of 8 bytes) (omega arith)
      ∙ sym (bit_of_number (bit_of 8 bytes) (bit_below 8 bytes) (24 + (i - 24) / width * width) width ((i - 24) % width) r)
      ∙ ap (λ (x : ℕ). bit_in width x ((i - 24) % width)) (sym (getd_numbers (bit_of 8 bytes) width 24 n ((i - 24) / width) q))
      ∙ sym (cond-false _ _ _ (le-ltb i 24 h))

  spare_bits : (i : ℕ) → 24 + n * width ≤ i → i < bytes_for width n * 8 → bit_of 8 bytes i ≡ recording_bit kind width (names_in width bytes n) i
  spare_bits i h l =
      let m = bytes_for width n * 8 - (24 + n * width) in
      let k = i - (24 + n * width) in
      let q : length (names_in width bytes n) ≤ (i - 24) / width = omega (arith, length_numbers (bit_of 8 bytes) width 24 n, le-div n (i - 24) width pos (omega arith)) in
      ap (bit_of 8 bytes) (omega arith)
      ∙ sym (bit_of_number (bit_of 8 bytes) (bit_below 8 bytes) (24 + n * width) m k (omega arith))
      ∙ ap (λ (x : ℕ). bit_in m x k) so.rest
      ∙ zero_bit m k
      ∙ sym (ap (λ (x : ℕ). bit_in width x ((i - 24) % width)) (get_or_past (names_in width bytes n) ((i - 24) / width) 0 q) ∙ zero_bit width ((i - 24) % width))
      ∙ sym (cond-false _ _ _ (le-ltb i 24 (omega arith)))

  all_bits : (i : ℕ) → i < bytes_for width n * 8 → bit_of 8 bytes i ≡ recording_bit kind width (names_in width bytes n) i
  all_bits i h = ⊎_elim
      (front_bits i)
      (λ (l : 24 ≤ i). ⊎_elim (name_bits i l) (λ (m : 24 + n * width ≤ i). spare_bits i m h) (cases_lt i (24 + n * width)))
      (cases_lt i 24)

  pub laid_recorded : Below 256 bytes → recording kind width (names_in width bytes n) ≡ bytes
  laid_recorded low =
      let l = length_numbers (bit_of 8 bytes) width 24 n in
      let c = recording_bit kind width (names_in width bytes n) in
      ap (λ (k : ℕ). numbers_at c 8 0 (bytes_for width k)) l
      ∙ numbers_same c (bit_of 8 bytes) 8 0 0 (bytes_for width n) (λ i h. ap c (omega arith) ∙ sym (all_bits i h) ∙ ap (bit_of 8 bytes) (omega arith))
      ∙ ap (numbers_at (bit_of 8 bytes) 8 0) (sym so.size)
      ∙ sym (row_of_bits 8 bytes low)

pub names_below : (width : ℕ) (bytes : List ℕ) (n : ℕ) → Below (2 ^ width) (names_in width bytes n)
names_below width bytes n i h =
    let l : i < n = omega (arith, length_numbers (bit_of 8 bytes) width 24 n) in
    rw (getd_numbers (bit_of 8 bytes) width 24 n i l) (number_below (bit_of 8 bytes) (bit_below 8 bytes) (24 + i * width) width)

-- the recording of a row of names passes the questions, and its names are read again
module _ (kind width : ℕ) (mark : kind < 4) (pos : 1 ≤ width) (ns : List ℕ) where
  pub recorded_below : Below 256 (recording kind width ns)
  recorded_below i h =
      let c = recording_bit kind width ns in
      let l : i < bytes_for width (length ns) = omega (arith, length_numbers c 8 0 (bytes_for width (length ns))) in
      rw (getd_numbers c 8 0 (bytes_for width (length ns)) i l) (number_below c (recording_bit_below kind width ns) (0 + i * 8) 8)

  recorded_bit : (i : ℕ) → i < bytes_for width (length ns) * 8 → bit_of 8 (recording kind width ns) i ≡ recording_bit kind width ns i
  recorded_bit i h = bits_of_row (recording_bit kind width ns) (recording_bit_below kind width ns) 8 (bytes_for width (length ns)) i (omega arith) h

  recorded_number : (i m : ℕ) → i + m ≤ bytes_for width (length ns) * 8 → number_at (bit_of 8 (recording kind width ns)) i m ≡ number_at (recording_bit kind width ns) i m
  recorded_number i m h = number_same (bit_of 8 (recording kind width ns)) (recording_bit kind width ns) i i m (λ k l. recorded_bit (i + k) (omega arith))

  behind_front : (i : ℕ) → recording_bit kind width ns (24 + i) ≡ bit_of width ns (0 + i)
  behind_front i = cond-false _ _ _ (le-ltb (24 + i) 24 (omega arith)) ∙ ap (bit_of width ns) (omega arith)

  front_again : length ns ≤ 4096 → number_at (recording_bit kind width ns) 0 24 ≡ front_number kind (length ns)
  front_again most = number_of_bits (recording_bit kind width ns) 0 24 (front_number kind (length ns)) (omega arith) (λ k h. ap (recording_bit kind width ns) (omega arith) ∙ cond-true _ _ _ (lt-ltb k 24 h))

  spare_again : number_at (recording_bit kind width ns) (24 + length ns * width) (bytes_for width (length ns) * 8 - (24 + length ns * width)) ≡ 0
  spare_again = number_zero (recording_bit kind width ns) (24 + length ns * width) _ (λ k h.
      let j = length ns * width + k in
      let q : length ns ≤ (0 + j) / width = le-div (length ns) (0 + j) width pos (omega arith) in
      ap (recording_bit kind width ns) (omega arith)
      ∙ behind_front j
      ∙ ap (λ (x : ℕ). bit_in width x ((0 + j) % width)) (get_or_past ns ((0 + j) / width) 0 q)
      ∙ zero_bit width ((0 + j) % width))

  pub recorded_names : Below (2 ^ width) ns → names_in width (recording kind width ns) (length ns) ≡ ns
  recorded_names low =
      numbers_same (bit_of 8 (recording kind width ns)) (bit_of width ns) width 24 0 (length ns) (λ i h. recorded_bit (24 + i) (omega arith) ∙ behind_front i)
      ∙ sym (row_of_bits width ns low)

  pub recorded_laid : length ns ≤ 4096 → laid_out kind width (recording kind width ns) ≡ Ok (length ns)
  recorded_laid most =
      let bytes = recording kind width ns in
      let l = length_numbers (recording_bit kind width ns) 8 0 (bytes_for width (length ns)) in
      let s = number_24 (bit_of 8 bytes) in
      let f = recorded_number 0 24 (omega arith) ∙ front_again most in
      let b1 = number_below (bit_of 8 bytes) (bit_below 8 bytes) 4 2 in
      let b2 = number_below (bit_of 8 bytes) (bit_below 8 bytes) 6 2 in
      let b3 = number_below (bit_of 8 bytes) (bit_below 8 bytes) 8 16 in
      accepted kind width bytes (length ns) (record {
        version = omega arith;
        kind_is = omega arith;
        zeros = omega arith;
        count = omega arith;
        most = most;
        size = l;
        rest = recorded_number (24 + length ns * width) _ (omega arith) ∙ spare_again;
      })

-- both ways together
pub laid : (kind width : ℕ) → kind < 4 → 1 ≤ width → Laid kind width
laid kind width mark pos =
    record {
      only = λ bytes n low e.
          let so = facts kind width bytes n e in
          let l = length_numbers (bit_of 8 bytes) width 24 n in
          ((omega (arith, so.most), names_below width bytes n), l, laid_recorded kind width pos bytes n so low);
      all = λ ns row. (recorded_laid kind width mark pos ns row.0, recorded_names kind width mark pos ns row.1);
      bytes = recorded_below kind width mark pos;
    }
