-- A trial's string, and what put and take back make of it. Assumes nothing.
use Rattle.std.specs.Prelude.{ℕ, ◌+◌, ◌-◌, cond, List, [], ◌∷◌, ◌++◌, length, take, Ok, Err, Result, nat_le, nat_lt}
use Rattle.paging.specs.declared.refusal.Refusal.{Refusal}
use Rattle.paging.specs.declared.refusal.Refusal.TheVariants.{StringFull, StringTooShort}
use Rattle.paging.specs.Pages.{size, has}
use Rattle.evaluator.specs.declared.Trial.{Trial}

abbrev pub string : Trial → List ℕ
string t = take t.len t.codes

-- the string after a code is put: one longer, unless it has 4,096
abbrev pub put_string : List ℕ → ℕ → List ℕ
put_string s c = cond (nat_lt (length s) 4096) (s ++ c ∷ []) s

abbrev pub put_answer : List ℕ → Result ℕ Refusal
put_answer s = cond (nat_lt (length s) 4096) (Ok (length s + 1)) (Err StringFull)

-- the string after k codes are taken back: without them, unless it has less
abbrev pub take_string : List ℕ → ℕ → List ℕ
take_string s k = cond (nat_le k (length s)) (take (length s - k) s) s

abbrev pub take_answer : List ℕ → ℕ → Result ℕ Refusal
take_answer s k = cond (nat_le k (length s)) (Ok (length s - k)) (Err StringTooShort)

-- how many different pages a string has
abbrev pub page_count : List ℕ → ℕ
page_count s = size (has s)
