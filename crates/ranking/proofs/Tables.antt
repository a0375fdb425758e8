-- Tables as lists. Assumes nothing.
use Rattle.std.proofs.Common.{◌≡◌, ℕ, zero, suc, get_or, replicate, refl}
use mathlib.Core.Path.{fun_ext}
use Rattle.paging.specs.Rankings.{untold}
use Rattle.ranking.specs.Tables.{table}

-- a list of zeros tells of nothing
pub table_none : (n : ℕ) → table (replicate n 0) ≡ untold
table_none n = fun_ext (zeros n)
  where
    zeros : (n c : ℕ) → get_or (replicate n 0) c 0 ≡ untold c
    zeros zero c = refl
    zeros (suc n) zero = refl
    zeros (suc n) (suc c) = zeros n c
