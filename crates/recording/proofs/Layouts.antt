-- What the reader takes from the bytes of a recording, and what the questions about its layout come to.
use Rattle.std.proofs.Common.{◌≡◌, ℕ, ◌+◌, ◌*◌, ◌<◌, ◌≤◌, min, true, false, cond, ◌&&◌, eqb, leb, ◌⊎◌, List, length, take, is_ok, Ok, Err, Result, sym, ap, ◌∙◌, ⊎_elim, arith}
use Rattle.std.proofs.lemmas.List.{length-take}
use Rattle.std.proofs.lemmas.Bool.{cases_Bool, le-leb, lt-leb, leb-true, eq-eqb, ne_eqb, and_left, and_right}
use Rattle.paging.specs.declared.refusal.Refusal.TheVariants.{TooShort, BadHeader, TooManyReferences}
use Rattle.recording.specs.declared.fault.LoadFault.{LoadFault}
use Rattle.recording.specs.Bits.{bit_of, number_at}
use Rattle.recording.specs.Reading.{taken, by_bytes, marked, counted, head}
use Rattle.recording.proofs.Bitwise.{number_take}

-- a number that was taken, and that there were bits enough
pub taken_ok : (xs : List ℕ) (i n v : ℕ) → taken xs i n ≡ Ok v → (v ≡ number_at (bit_of 8 xs) i n) × (i + n ≤ length xs * 8)
taken_ok xs i n v e = ⊎_elim
    (λ t. let o : Ok (number_at (bit_of 8 xs) i n) ≡ taken xs i n = rw t in (cc, leb-true _ _ t))
    (λ t. let o : Err (by_bytes TooShort (length xs)) ≡ taken xs i n = rw t in absurd (let z : ◌≡◌ {A = ℕ} 0 1 = cc in omega arith))
    (cases_Bool (leb (i + n) (length xs * 8)))

-- the same from the first three bytes
pub front_ok : (bytes part : List ℕ) (len i n v : ℕ) → part ≡ take len bytes → len ≡ min (length bytes) 3 → i + n ≤ 24 → taken part i n ≡ Ok v → (v ≡ number_at (bit_of 8 bytes) i n) × (i + n ≤ length bytes * 8)
front_ok bytes part len i n v is l h e =
    let r = taken_ok part i n v e in
    let lp : length part ≡ min len (length bytes) = ap length is ∙ length-take len bytes in
    let f : number_at (bit_of 8 part) i n ≡ number_at (bit_of 8 (take len bytes)) i n = ap (λ (xs : List ℕ). number_at (bit_of 8 xs) i n) is in
    let g = number_take bytes len i n (omega arith) in
    (r.0 ∙ f ∙ g, omega arith)

-- where the reader stands after a number was taken
pub moved_on : (i j n v : ℕ) (r : Result ℕ LoadFault) → r ≡ Ok v → j ≡ cond (is_ok r) (i + n) i → j ≡ i + n
moved_on i j n v r o e = e ∙ ap (λ (x : Result ℕ LoadFault). cond (is_ok x) (i + n) i) o

-- the four numbers of the first three bytes
pub record Front (bytes : List ℕ) (version kind zeros count : ℕ) : Type 0 where
  pub long : 3 ≤ length bytes
  pub version_is : version ≡ number_at (bit_of 8 bytes) 0 4
  pub kind_is : kind ≡ number_at (bit_of 8 bytes) 4 2
  pub zeros_are : zeros ≡ number_at (bit_of 8 bytes) 6 2
  pub count_is : count ≡ counted bytes

module _ (bytes : List ℕ) (kind v k z n : ℕ) (front : Front bytes v k z n) where
  long_enough : leb 3 (length bytes) ≡ true
  long_enough = le-leb _ _ front.long

  pub head_unmarked : (v ≡ 1 → ⊥) ⊎ ((k ≡ kind → ⊥) ⊎ (z ≡ 0 → ⊥)) → Err (by_bytes BadHeader 0) ≡ head kind bytes
  head_unmarked wrong =
      let is1 = eqb (number_at (bit_of 8 bytes) 0 4) 1 in
      let is2 = eqb (number_at (bit_of 8 bytes) 4 2) kind in
      let is3 = eqb (number_at (bit_of 8 bytes) 6 2) 0 in
      let last : (k ≡ kind → ⊥) ⊎ (z ≡ 0 → ⊥) → (is2 && is3) ≡ false = ⊎_elim
      (λ a. and_left is2 is3 (ne_eqb _ _ (λ e. a (front.kind_is ∙ e))))
      (λ a. and_right is2 is3 (ne_eqb _ _ (λ e. a (front.zeros_are ∙ e)))) in
      let f : marked kind bytes ≡ false = ⊎_elim
      (λ a. and_left is1 (is2 && is3) (ne_eqb _ _ (λ e. a (front.version_is ∙ e))))
      (λ o. and_right is1 (is2 && is3) (last o)) wrong in
      rw (long_enough, f)

  is_marked : v ≡ 1 → k ≡ kind → z ≡ 0 → marked kind bytes ≡ true
  is_marked a b c =
      let t = eq-eqb _ _ (sym front.version_is ∙ a) in
      let u = eq-eqb _ _ (sym front.kind_is ∙ b) in
      let w = eq-eqb _ _ (sym front.zeros_are ∙ c) in
      rw (t, u, w)

  pub head_many : v ≡ 1 → k ≡ kind → z ≡ 0 → 4096 < n → Err (by_bytes TooManyReferences 1) ≡ head kind bytes
  head_many a b c h =
      let t = is_marked a b c in
      let e = front.count_is in
      let u : leb (counted bytes) 4096 ≡ false = lt-leb _ _ (omega arith) in
      rw (long_enough, t, u)

  pub head_counted : v ≡ 1 → k ≡ kind → z ≡ 0 → n ≤ 4096 → Ok n ≡ head kind bytes
  head_counted a b c h =
      let t = is_marked a b c in
      let e = front.count_is in
      let u : leb (counted bytes) 4096 ≡ true = le-leb _ _ (omega arith) in
      rw (long_enough, t, u) (ap Ok e)
