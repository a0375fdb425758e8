-- One stack of pages for all frame counts: its first f pages are what f frames hold. Assumes nothing.
use Rattle.std.specs.Prelude.{ℕ, ◌+◌, Bool, cond, List, [], ◌∷◌, map, ◌==◌}
use Rattle.std.specs.List.{range_with_len}
use Rattle.paging.specs.Rankings.{RankingModel, own_faults}

-- the page c is carried down to where x was, and at each depth the page that is behind is carried on
abbrev pub sift : (ℕ → ℕ → Bool) → ℕ → ℕ → List ℕ → List ℕ
sift o x c [] = c ∷ []
sift o x c (y ∷ ys) = cond (y == x) (c ∷ ys) (cond (o c y) (c ∷ sift o x y ys) (y ∷ sift o x c ys))

-- the stack after a reference to x
abbrev pub restacked : (ℕ → ℕ → Bool) → ℕ → List ℕ → List ℕ
restacked o x [] = x ∷ []
restacked o x (y ∷ ys) = x ∷ cond (y == x) ys (sift o x y ys)

-- the faults of a ranking's own run at the frame counts 1 to 64
abbrev pub pass_row : RankingModel → List ℕ → List ℕ
pass_row r s = map (λ k. own_faults r (k + 1) s) (range_with_len 0 64)
