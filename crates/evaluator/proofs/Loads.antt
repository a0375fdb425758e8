-- The string that a load leaves. Assumes nothing.
use Rattle.std.proofs.Common.{◌≡◌, ℕ, ◌-◌, ◌<◌, ◌≤◌, min, Bool, true, false, eqb, leb, ◌⊎◌, List, [], ◌∷◌, ◌++◌, length, get_or, Ok, Err, Result, sym, refl, ap, ◌∙◌, inl, inr, arith}
use Rattle.std.proofs.lemmas.List.{length_push, get_or_push, get_or_append_left}
use Rattle.std.proofs.lemmas.Bool.{cases_lt, leb-true}
use Rattle.paging.specs.Pages.{codes}
use Rattle.paging.specs.Schedules.{Coded}
use Rattle.paging.specs.declared.refusal.Refusal.TheVariants.{TooShort, BadHeader, TooManyReferences, WrongLength, SpareBitsSet}
use Rattle.recording.specs.declared.fault.LoadFault.{LoadFault}
use Rattle.recording.specs.Coding.{coded, codes_of, coded_answer, decoded, names_in, names_of, names_laid, names_recorded}
use Rattle.names.specs.Lists.{limit_of}
use Rattle.recording.proofs.Bitwise.{length_numbers}
use Rattle.recording.proofs.Counted.{counts_stand}
use Rattle.recording.proofs.Codes.{codes_stand}
use Rattle.recording.proofs.Written.{named_below}
use Rattle.recording.specs.Bits.{bit_of}
use Rattle.recording.specs.Standing.{Below}
use Rattle.recording.specs.Reading.{and_then, asked, bytes_for, by_bytes, counted as counted_in, head, body, laid_out, marked, spare}
use Rattle.evaluator.specs.Histories.{loaded, load_string}
use Rattle.evaluator.specs.Strings.{page_count}

pub never : {X : Type 0} (n : ℕ) (e : LoadFault) → ◌≡◌ {A = Result ℕ LoadFault} (Ok n) (Err e) → X
never n e q = let z : ◌≡◌ {A = ℕ} 0 1 = cc in absurd (omega arith)

module _ (width : ℕ) (bytes : List ℕ) (limit : ℕ) where
  -- as many codes as were answered
  counted : (r : Result ℕ LoadFault) (n : ℕ) (cs : List ℕ) → and_then r (λ m. coded_answer (codes_of limit (names_in width bytes m))) ≡ Ok n →
      codes_of limit (names_laid width bytes r) ≡ Ok cs → n ≡ length cs
  counted (Ok m) n cs e h = let q : Ok (length cs) ≡ Ok n = sym (ap coded_answer h) ∙ e in cc
  counted (Err x) n cs e h = never n x (sym e)

  none_coded : (q : Result (List ℕ) ℕ) (e : LoadFault) → coded_answer q ≡ Err e → loaded q ≡ []
  none_coded (Ok cs) e h = never (length cs) e h
  none_coded (Err p) e h = refl

  none_laid : (r : Result ℕ LoadFault) (e : LoadFault) → and_then r (λ m. coded_answer (codes_of limit (names_in width bytes m))) ≡ Err e →
      loaded (codes_of limit (names_laid width bytes r)) ≡ []
  unfolding coded
  none_laid (Ok m) e h = none_coded (codes_of limit (names_in width bytes m)) e h
  none_laid (Err x) e h = refl

-- an accepted load answers the length of the string
pub loaded_length : (kind width places : ℕ) (bytes : List ℕ) (n : ℕ) (cs : List ℕ) → decoded kind width places bytes ≡ Ok n →
    codes_of (limit_of places) (names_recorded kind width bytes) ≡ Ok cs → n ≡ length cs
loaded_length kind width places bytes n cs e h = counted width bytes (limit_of places) (laid_out kind width bytes) n cs e h

-- and the list that it leaves has as many names as the string has different pages
pub loaded_pages : (kind width places : ℕ) (bytes : List ℕ) (k : ℕ) (cs : List ℕ) → codes_of (limit_of places) (names_recorded kind width bytes) ≡ Ok cs →
    k ≡ length (names_of (limit_of places) (names_recorded kind width bytes)) → k ≡ page_count cs
loaded_pages kind width places bytes k cs h ek =
    let c = counts_stand (limit_of places) (names_recorded kind width bytes) cs h in
    ek ∙ c.names ∙ sym (c.pages (omega arith))

-- a refused load leaves nothing
pub refused_string : (kind width places : ℕ) (bytes : List ℕ) (e : LoadFault) → decoded kind width places bytes ≡ Err e →
    load_string kind width places bytes ≡ []
refused_string kind width places bytes e h = none_laid width bytes (limit_of places) (laid_out kind width bytes) e h

-- one number more
pub below_push : (limit : ℕ) (cs : List ℕ) (x : ℕ) → Below limit cs → x < limit → Below limit (cs ++ x ∷ [])
below_push limit cs x b l i h = go (cases_lt i (length cs))
  where
    go : (i < length cs) ⊎ (length cs ≤ i) → get_or (cs ++ x ∷ []) i 0 < limit
    go (inl q) = rw (get_or_append_left cs (x ∷ []) 0 i q) (b i q)
    go (inr q) = let e : length cs ≡ i = omega (arith, length_push cs x) in rw (get_or_push cs x 0 i e) l

-- a recording that has the layout counts at most 4,096
asked_ok : (b : Bool) (x : LoadFault) (r : Result ℕ LoadFault) (n : ℕ) → asked b x r ≡ Ok n → (b ≡ true) × (r ≡ Ok n)
asked_ok true x r n e = (refl, e)
asked_ok false x r n e = never n x (sym e)

same_count : (m n : ℕ) → ◌≡◌ {A = Result ℕ LoadFault} (Ok m) (Ok n) → m ≡ n
same_count m n e = cc

head_few : (r : Result ℕ LoadFault) (kind width : ℕ) (bytes : List ℕ) (n : ℕ) → r ≡ head kind bytes → and_then r (body width bytes) ≡ Ok n → n ≤ 4096
head_few (Err x) kind width bytes n e h = never n x (sym h)
head_few (Ok m) kind width bytes n e h =
    let a = asked_ok (leb 3 (length bytes)) (by_bytes TooShort (length bytes)) _ m (sym e) in
    let b = asked_ok (marked kind bytes) (by_bytes BadHeader 0) _ m a.1 in
    let d = asked_ok (leb (counted_in bytes) 4096) (by_bytes TooManyReferences 1) _ m b.1 in
    let p = asked_ok (eqb (length bytes) (bytes_for width m)) (by_bytes WrongLength (min (length bytes) (bytes_for width m))) _ n h in
    let q = asked_ok (eqb (spare width m bytes) 0) (by_bytes SpareBitsSet (length bytes - 1)) _ n p.1 in
    omega (arith, leb-true (counted_in bytes) 4096 d.0, same_count (counted_in bytes) m d.1, same_count m n q.1)

-- what an accepted load leaves: at most 4,096 codes
laid_few : (kind width : ℕ) (bytes : List ℕ) (n : ℕ) → laid_out kind width bytes ≡ Ok n → n ≤ 4096
laid_few kind width bytes n e = head_few (head kind bytes) kind width bytes n refl e

names_few : (kind width : ℕ) (bytes : List ℕ) (r : Result ℕ LoadFault) → r ≡ laid_out kind width bytes → length (names_laid width bytes r) ≤ 4096
names_few kind width bytes (Ok n) e = omega (arith, laid_few kind width bytes n (sym e), length_numbers (bit_of 8 bytes) width 24 n)
names_few kind width bytes (Err x) e = omega arith

-- the string after a load has at most 4,096 references, and each is to a page
codes_fit : (limit : ℕ) (ms : List ℕ) (r : Result (List ℕ) ℕ) → r ≡ codes_of limit ms → limit ≤ codes → length ms ≤ 4096 →
    (length (loaded r) ≤ 4096) × Coded (loaded r)
codes_fit limit ms (Ok cs) e l h =
    let k = counts_stand limit ms cs (sym e) in
    let c = codes_stand limit ms cs (sym e) in
    (omega (arith, k.references), λ i q. omega (arith, c.within, named_below _ cs c.named i q))
codes_fit limit ms (Err p) e l h = (omega arith, λ i q. absurd (omega arith))

pub load_fits : (kind width places : ℕ) (bytes : List ℕ) → (length (load_string kind width places bytes) ≤ 4096) × Coded (load_string kind width places bytes)
load_fits kind width places bytes =
    codes_fit (limit_of places) (names_recorded kind width bytes) (codes_of (limit_of places) (names_recorded kind width bytes)) refl (omega arith)
    (names_few kind width bytes (laid_out kind width bytes) refl)

-- an accepted load answers at most 4,096
pub loaded_few : (kind width places : ℕ) (bytes : List ℕ) (n : ℕ) (cs : List ℕ) → decoded kind width places bytes ≡ Ok n →
    codes_of (limit_of places) (names_recorded kind width bytes) ≡ Ok cs → n ≤ 4096
loaded_few kind width places bytes n cs e h =
    omega (arith, loaded_length kind width places bytes n cs e h, (load_fits kind width places bytes).0, ap (λ r. length (loaded r)) h)
