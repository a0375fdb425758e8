-- The codes of a row of names, and what decoding a recording answers and leaves. Assumes nothing.
use Rattle.std.specs.Prelude.{ℕ, suc, ◌+◌, cond, not, ◌||◌, List, [], ◌∷◌, ◌++◌, map, length, drop, Ok, Err, Result, nat_lt}
use Rattle.paging.specs.declared.refusal.Refusal.{Refusal}
use Rattle.paging.specs.declared.refusal.Refusal.TheVariants.{NoPlaceForName}
use Rattle.paging.specs.Pages.{bit, has}
use Rattle.recording.specs.declared.fault.LoadFault.{LoadFault}
use Rattle.recording.specs.Bits.{bit_of, numbers_at}
use Rattle.names.specs.Lists.{place_in, known, with_name, limit_of}
use Rattle.recording.specs.Reading.{by_names, and_then, laid_out}

-- the names ms are looked up one by one in the list ns, and their codes come behind cs; or the place of the one that is refused
unfoldable pub coded : ℕ → List ℕ → List ℕ → List ℕ → Result (List ℕ) ℕ
coded limit ns cs [] = Ok cs
coded limit ns cs (m ∷ ms) =
    cond (known ns m || nat_lt (length ns) limit)
    (coded limit (with_name limit ns m) (cs ++ place_in ns m ∷ []) ms)
    (Err (suc (length cs)))

-- the codes of the names ms up to the first one that is refused
unfoldable pub accepted : ℕ → List ℕ → List ℕ → List ℕ
accepted limit ns [] = []
accepted limit ns (m ∷ ms) = cond (known ns m || nat_lt (length ns) limit) (place_in ns m ∷ accepted limit (with_name limit ns m) ms) []

-- the names of the list after the names ms are looked up: the different ones in order of first appearance
unfoldable pub learnt : ℕ → List ℕ → List ℕ → List ℕ
learnt limit ns [] = ns
learnt limit ns (m ∷ ms) = learnt limit (with_name limit ns m) ms

-- the codes of a row of names over a list that begins empty, or the place, counted from 1, of the name that is refused
abbrev pub codes_of : ℕ → List ℕ → Result (List ℕ) ℕ
codes_of limit ms = coded limit [] [] ms

-- the codes before the one that is refused, or all
abbrev pub codes_before : ℕ → List ℕ → List ℕ
codes_before limit ms = accepted limit [] ms

-- the names that such a list has afterwards
abbrev pub names_of : ℕ → List ℕ → List ℕ
names_of limit ms = learnt limit [] ms

-- the names in the bytes of a recording that counts n, and those of a recording at all: none where the layout is refused
abbrev pub names_in : ℕ → List ℕ → ℕ → List ℕ
names_in width bytes n = numbers_at (bit_of 8 bytes) width 24 n

abbrev pub names_laid : ℕ → List ℕ → Result ℕ LoadFault → List ℕ
names_laid width bytes (Ok n) = names_in width bytes n
names_laid width bytes (Err e) = []

abbrev pub names_recorded : ℕ → ℕ → List ℕ → List ℕ
names_recorded kind width bytes = names_laid width bytes (laid_out kind width bytes)

-- how many different names a row has: each counts where it stands for the last time
unfoldable pub different : List ℕ → ℕ
different [] = 0
different (m ∷ ms) = bit (not (has ms m)) + different ms

-- the codes answer how many they are, and a refused name its place
abbrev pub coded_answer : Result (List ℕ) ℕ → Result ℕ LoadFault
coded_answer (Ok cs) = Ok (length cs)
coded_answer (Err p) = Err (by_names NoPlaceForName p)

-- decoding over a memory of so many places: the questions about the layout, and then the names
abbrev pub decoded : ℕ → ℕ → ℕ → List ℕ → Result ℕ LoadFault
decoded kind width size bytes =
    and_then (laid_out kind width bytes) (λ n. coded_answer (codes_of (limit_of size) (names_in width bytes n)))

-- a memory with the records of the names ns in front
abbrev pub with_records : {X : Type 0} → (ℕ → X) → List ℕ → List X → List X
with_records make ns xs = map make ns ++ drop (length ns) xs

-- a memory with the codes cs in front
abbrev pub with_codes : List ℕ → List ℕ → List ℕ
with_codes cs old = cs ++ drop (length cs) old

-- a refused name by its place
abbrev pub at_place : ℕ → Result ℕ Refusal → Result ℕ LoadFault
at_place p (Ok c) = Ok c
at_place p (Err e) = Err (by_names e p)
