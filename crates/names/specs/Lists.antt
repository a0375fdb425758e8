-- Name lists: where a name stands, and what looking one up answers and leaves. Assumes nothing.
use Rattle.std.specs.Prelude.{◌≡◌, ℕ, suc, ◌+◌, ◌<◌, ◌≤◌, min, Bool, false, cond, not, ◌&&◌, ◌||◌, List, [], ◌∷◌, ◌++◌, map, length, take, Ok, Err, Result, ◌==◌, nat_lt, slice_index, slice_set}
use Rattle.paging.specs.declared.refusal.Refusal.{Refusal}
use Rattle.paging.specs.declared.refusal.Refusal.TheVariants.{NoPlaceForName}
use Rattle.paging.specs.Pages.{has}

-- the place of the number m in a row, counted from 0, or the row's length
abbrev pub place_in : List ℕ → ℕ → ℕ
place_in [] m = 0
place_in (x ∷ xs) m = cond (x == m) 0 (suc (place_in xs m))

-- a list holds as many names as its memory has places, at most 256
abbrev pub limit_of : ℕ → ℕ
limit_of size = min size 256

-- whether m is among the names ns
abbrev pub known : List ℕ → ℕ → Bool
known ns m = nat_lt (place_in ns m) (length ns)

-- whether looking up m adds it to the names ns, of which there may be as many as the limit
abbrev pub adds : ℕ → List ℕ → ℕ → Bool
adds limit ns m = not (known ns m) && nat_lt (length ns) limit

-- the names after m is looked up: a new name comes last
abbrev pub with_name : ℕ → List ℕ → ℕ → List ℕ
with_name limit ns m = cond (adds limit ns m) (ns ++ m ∷ []) ns

-- looking up answers the name's place, and refuses a new name that has no place
abbrev pub look_answer : ℕ → List ℕ → ℕ → Result ℕ Refusal
look_answer limit ns m = cond (known ns m || nat_lt (length ns) limit) (Ok (place_in ns m)) (Err NoPlaceForName)

-- how many names a list has whose memory has so many places: its count, which the limit bounds
abbrev pub held : ℕ → ℕ → ℕ
held size count = min (min count 256) size

-- the records in the places of a list, and its names, each by what it stands for
abbrev pub in_list : {X : Type 0} → List X → ℕ → List X
in_list xs count = take (held (length xs) count) xs

abbrev pub listed : {X : Type 0} → (X → ℕ) → List X → ℕ → List ℕ
listed f xs count = map f (in_list xs count)

-- looking up the record x: the answer, the count afterwards and the memory afterwards
abbrev pub looked_up : {X : Type 0} → (X → ℕ) → List X → ℕ → X → Result ℕ Refusal
looked_up f xs count x = look_answer (limit_of (length xs)) (listed f xs count) (f x)

abbrev pub looked_count : {X : Type 0} → (X → ℕ) → List X → ℕ → X → ℕ
looked_count f xs count x =
    cond (adds (limit_of (length xs)) (listed f xs count) (f x)) (held (length xs) count + 1) (held (length xs) count)

abbrev pub looked_memory : {X : Type 0} → (X → ℕ) → List X → ℕ → X → List X
looked_memory f xs count x =
    cond (adds (limit_of (length xs)) (listed f xs count) (f x)) (slice_set xs (held (length xs) count) x) xs

-- what looking m up means, where the names of the list were ns and then are ns': m stands at the code that is answered, and it was
-- added as the last one, within the limit, exactly if it was not in the list; it is refused where it was not and the list has as many
-- names as the limit
abbrev pub LookUp : ℕ → List ℕ → ℕ → List ℕ → Result ℕ Refusal → Type 0
LookUp limit ns m ns' (Ok c) =
    (c < length ns') × (slice_index ns' c ≡ m) × (ns' ≡ cond (not (has ns m)) (ns ++ m ∷ []) ns) × (length ns' ≤ limit)
LookUp limit ns m ns' (Err e) = (e ≡ NoPlaceForName) × (has ns m ≡ false) × (limit ≤ length ns) × (ns' ≡ ns)
