-- The recording of a row of names, bit by bit, and what encoding answers and leaves. Assumes nothing.
use Rattle.std.specs.Prelude.{ℕ, ◌+◌, ◌-◌, ◌*◌, Bool, cond, List, ◌++◌, map, length, drop, Ok, Err, Result, nat_lt, slice_index}
use Rattle.std.specs.List.{list_all}
use Rattle.paging.specs.declared.refusal.Refusal.{Refusal}
use Rattle.paging.specs.declared.refusal.Refusal.TheVariants.{CodeWithoutName, OutputTooShort}
use Rattle.recording.specs.Bits.{bit_in, bit_of, numbers_at}
use Rattle.recording.specs.Reading.{bytes_for}

-- the first 24 bits of a recording as a number: version 1 in four bits, the kind in two, two zero bits, the count in sixteen
abbrev pub front_number : ℕ → ℕ → ℕ
front_number kind count = 1048576 + kind * 262144 + count

-- bit i of the recording of the names ns: the front, the names, and zero bits
abbrev pub recording_bit : ℕ → ℕ → List ℕ → ℕ → ℕ
recording_bit kind width ns i = cond (nat_lt i 24) (bit_in 24 (front_number kind (length ns)) i) (bit_of width ns (i - 24))

-- the recording of the names ns: so many full bytes
abbrev pub recording : ℕ → ℕ → List ℕ → List ℕ
recording kind width ns = numbers_at (recording_bit kind width ns) 8 0 (bytes_for width (length ns))

-- the names of the list ns that the codes cs stand for
abbrev pub named_by : List ℕ → List ℕ → List ℕ
named_by ns cs = map (λ c. slice_index ns c) cs

-- whether every code has a name in a list of n names
abbrev pub all_named : ℕ → List ℕ → Bool
all_named n cs = list_all (λ c. nat_lt c n) cs

-- encoding the codes cs with the names ns into so much memory
abbrev pub encoded : ℕ → List ℕ → List ℕ → ℕ → Result ℕ Refusal
encoded width ns cs room =
    cond (all_named (length ns) cs)
    (cond (nat_lt room (bytes_for width (length cs))) (Err OutputTooShort) (Ok (bytes_for width (length cs))))
    (Err CodeWithoutName)

-- the memory after n bytes of a recording are written into it, where that is not refused
abbrev pub written : Result ℕ Refusal → List ℕ → List ℕ → List ℕ
written (Ok n) recorded out = recorded ++ drop n out
written (Err e) recorded out = out
