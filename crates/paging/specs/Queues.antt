-- Lists of pages that name no page twice. Assumes nothing.
use Rattle.std.specs.Prelude.{ℕ, Bool, true, not, ◌&&◌, List, [], ◌∷◌, nat_lt}
use Rattle.paging.specs.Pages.{codes, has}

-- no number stands twice in the list
abbrev pub once : List ℕ → Bool
once [] = true
once (x ∷ xs) = not (has xs x) && once xs

-- each number of the list is a code
abbrev pub coded : List ℕ → Bool
coded [] = true
coded (x ∷ xs) = nat_lt x codes && coded xs
