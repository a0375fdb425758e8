-- Reading a recording: the bits taken, and the questions about its layout. Assumes nothing.
use Rattle.std.specs.Prelude.{ℕ, ◌+◌, ◌-◌, ◌*◌, ◌/◌, min, Bool, cond, ◌&&◌, List, length, Ok, Err, Result, ◌==◌, nat_le}
use Rattle.paging.specs.declared.refusal.Refusal.{Refusal}
use Rattle.paging.specs.declared.refusal.Refusal.TheVariants.{TooShort, BadHeader, TooManyReferences, WrongLength, SpareBitsSet}
use Rattle.recording.specs.declared.fault.Layer.TheVariants.{Bytes, Names}
use Rattle.recording.specs.declared.fault.LoadFault.{LoadFault}
use Rattle.recording.specs.Bits.{bit_of, number_at}

-- a refusal by the bytes, and one by the names, with its place
abbrev pub by_bytes : Refusal → ℕ → LoadFault
by_bytes r p = record { refusal = r; layer = Bytes; place = p }

abbrev pub by_names : Refusal → ℕ → LoadFault
by_names r p = record { refusal = r; layer = Names; place = p }

-- the number in n bits of the bytes from bit i on, or a refusal where there are not so many
abbrev pub taken : List ℕ → ℕ → ℕ → Result ℕ LoadFault
taken bytes i n =
    cond (nat_le (i + n) (length bytes * 8)) (Ok (number_at (bit_of 8 bytes) i n)) (Err (by_bytes TooShort (length bytes)))

-- a question: where the answer is no, the refusal is the outcome
abbrev pub asked : Bool → LoadFault → Result ℕ LoadFault → Result ℕ LoadFault
asked answer fault rest = cond answer rest (Err fault)

-- version, kind and zero bits of a recording
abbrev pub marked : ℕ → List ℕ → Bool
marked kind bytes =
    (number_at (bit_of 8 bytes) 0 4 == 1) && (number_at (bit_of 8 bytes) 4 2 == kind && number_at (bit_of 8 bytes) 6 2 == 0)

-- the count of references
abbrev pub counted : List ℕ → ℕ
counted bytes = number_at (bit_of 8 bytes) 8 16

-- the questions about the first three bytes, which answer the count
abbrev pub head : ℕ → List ℕ → Result ℕ LoadFault
head kind bytes =
    asked (nat_le 3 (length bytes)) (by_bytes TooShort (length bytes))
    (asked (marked kind bytes) (by_bytes BadHeader 0)
    (asked (nat_le (counted bytes) 4096) (by_bytes TooManyReferences 1) (Ok (counted bytes))))

-- how many bytes a recording of n names has
abbrev pub bytes_for : ℕ → ℕ → ℕ
bytes_for width n = 3 + (n * width + 7) / 8

-- the number in the spare bits behind n names
abbrev pub spare : ℕ → ℕ → List ℕ → ℕ
spare width n bytes = number_at (bit_of 8 bytes) (24 + n * width) (bytes_for width n * 8 - (24 + n * width))

-- the questions about the bytes of n names
abbrev pub body : ℕ → List ℕ → ℕ → Result ℕ LoadFault
body width bytes n =
    asked (length bytes == bytes_for width n) (by_bytes WrongLength (min (length bytes) (bytes_for width n)))
    (asked (spare width n bytes == 0) (by_bytes SpareBitsSet (length bytes - 1)) (Ok n))

-- what follows an accepted step
abbrev pub and_then : {X Y E : Type 0} → Result X E → (X → Result Y E) → Result Y E
and_then (Ok x) f = f x
and_then (Err e) f = Err e

-- the questions about the layout of a recording, which answer the count
abbrev pub laid_out : ℕ → ℕ → List ℕ → Result ℕ LoadFault
laid_out kind width bytes = and_then (head kind bytes) (body width bytes)
