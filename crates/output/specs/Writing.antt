-- Items written into memory. Assumes nothing.
use Rattle.std.specs.Prelude.{◌≡◌, ℕ, ◌+◌, List, ◌++◌, length, take, drop}

-- the memory xs with the items ys written from the place `at` on
abbrev pub overlay : {T : Type 0} → List T → ℕ → List T → List T
overlay xs at ys = take at xs ++ (ys ++ drop (at + length ys) xs)

-- ys was written into the memory xs from the place `at` on, up to the place `end`, and nothing else was changed
pub record Wrote {T : Type 0} (xs : List T) (at : ℕ) (ys out : List T) (end : ℕ) : Type 0 where
  pub items : out ≡ overlay xs at ys
  pub ends : end ≡ at + length ys
