-- One serve, by the rows that a pager can be given. Assumes nothing.
use Rattle.std.proofs.Common.{◌≡◌, ℕ, List, [], ◌∷◌, drop, Some, ap, arith}
use Rattle.std.specs.List.{slice_get}
use Rattle.paging.specs.Pages.{Pages}
use Rattle.paging.specs.Models.{served, stepping}

-- a row that has a first code begins with it
pub row_is : (row : List ℕ) (x : ℕ) → slice_get row 0 ≡ Some x → row ≡ x ∷ drop 1 row
row_is [] x e = grind (arith, e)
row_is (y ∷ ys) x e = grind (arith, e)

-- the state moves by the step
pub stepped : {S : Type 0} (step : List ℕ → S → S) (held : S → Pages) (p q : S) (row row' : List ℕ) → row ≡ row' → p ≡ step row' q →
    stepping step held p ≡ served (stepping step held q) row
stepped step held p q row row' r e = rw r (ap (stepping step held) e)
