-- The calls that change a trial's string, and what any row of them leaves. Assumes nothing.
use Rattle.std.specs.Prelude.{ℕ, ◌<◌, List, [], ◌∷◌, Ok, Err, Result}
use Rattle.paging.specs.Pages.{codes}
use Rattle.recording.specs.Coding.{codes_of, names_recorded}
use Rattle.names.specs.Lists.{limit_of}
use Rattle.evaluator.specs.Strings.{put_string, take_string}

-- a call, accepted or refused: put a code; take back so many; clear; load a recording with a list of so many places,
-- whose kind of name has that number and so many bits
pub data Call : Type 0 where
  put : ℕ → Call
  take_back : ℕ → Call
  clear : Call
  load : ℕ → ℕ → ℕ → List ℕ → Call

-- the codes, if there are any
abbrev pub loaded : Result (List ℕ) ℕ → List ℕ
loaded (Ok cs) = cs
loaded (Err p) = []

-- the string after a load: the codes of the recording's names, or nothing where it was refused
abbrev pub load_string : ℕ → ℕ → ℕ → List ℕ → List ℕ
load_string kind width places bytes = loaded (codes_of (limit_of places) (names_recorded kind width bytes))

-- the string after a call
abbrev pub after_call : List ℕ → Call → List ℕ
after_call s (put c) = put_string s c
after_call s (take_back k) = take_string s k
after_call s clear = []
after_call s (load kind width places bytes) = load_string kind width places bytes

-- the string after several calls, the first of them first, on a trial with the string s
abbrev pub after_calls : List ℕ → List Call → List ℕ
after_calls s [] = s
after_calls s (c ∷ cs) = after_calls (after_call s c) cs

-- a code that is put is a code
abbrev pub Possible : Call → Type 0
Possible (put c) = c < codes
Possible (take_back k) = Unit {0}
Possible clear = Unit {0}
Possible (load kind width places bytes) = Unit {0}

abbrev pub AllPossible : List Call → Type 0
AllPossible [] = Unit {0}
AllPossible (c ∷ cs) = Possible c × AllPossible cs
