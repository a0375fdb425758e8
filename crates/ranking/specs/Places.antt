-- The place of the next reference to each reference's code. Assumes nothing.
use Rattle.std.specs.Prelude.{◌≡◌, ℕ, suc, ◌<◌, ◌≤◌, List, length, drop, slice_index}
use Rattle.paging.specs.Rankings.{next_place}

-- a has, for each reference from the number t on, the place of the next reference to its code, or 0 for none
abbrev pub NextPlaces : List ℕ → ℕ → List ℕ → Type 0
NextPlaces s t a = (j : ℕ) → t ≤ j → j < length s → slice_index a j ≡ next_place (suc j) (slice_index s j) (drop (suc j) s)
