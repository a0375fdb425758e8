-- Text: numbers, and the lines of rows. Assumes nothing.
use Rattle.std.specs.Prelude.{ℕ, List, [], ◌∷◌, ◌++◌, decimal}
use Rattle.listing.specs.declared.text.Row.{Row}

-- the decimal digits of a number, and the byte that ends it
abbrev pub field : ℕ → ℕ → List ℕ
field n end = decimal n ++ end ∷ []

-- the line of a row: its numbers with commas between them, and a line feed
abbrev pub row_text : Row → List ℕ
row_text r =
    field r.frames 44 ++ (field r.lru 44 ++ (field r.min 44 ++ (field r.dpmin 44 ++ field r.pulls 10)))
