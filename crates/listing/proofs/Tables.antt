-- Lines, one after another. Assumes nothing.
use Rattle.std.proofs.Common.{◌≡◌, ℕ, ◌+◌, ◌<◌, ◌≤◌, List, [], ◌∷◌, ◌++◌, length, get_or, take, drop, sym, refl, ap, ◌∙◌, sum_by, append_assoc, append-nil, arith}
use Rattle.std.proofs.lemmas.List.{take_more, take-append-drop, length-append}
use Rattle.std.proofs.lemmas.List.Sums.{sum_by-cons}
use Rattle.listing.specs.declared.text.Row.{Row}
use Rattle.listing.specs.Texts.{row_text}
use Rattle.listing.specs.Listings.{lines}

-- what is read past the end of some rows
abbrev pub no_row : Row
no_row = record { frames = 0; lru = 0; min = 0; dpmin = 0; pulls = 0 }

pub lines_none : lines [] ≡ []
unfolding lines
lines_none = refl

pub lines_append : (rs qs : List Row) → lines (rs ++ qs) ≡ lines rs ++ lines qs
unfolding lines
lines_append [] qs = refl
lines_append (r ∷ rs) qs = ap (λ (ys : List ℕ). row_text r ++ ys) (lines_append rs qs) ∙ sym (append_assoc (row_text r) (lines rs) (lines qs))

pub lines_one : (r : Row) → lines (r ∷ []) ≡ row_text r
unfolding lines
lines_one r = append-nil (row_text r)

-- one line more
pub lines_more : (rs : List Row) (i : ℕ) → i < length rs → lines (take (i + 1) rs) ≡ lines (take i rs) ++ row_text (get_or rs i no_row)
lines_more rs i h =
    ap lines (take_more rs i no_row h) ∙ lines_append (take i rs) (get_or rs i no_row ∷ [])
    ∙ ap (λ (ys : List ℕ). lines (take i rs) ++ ys) (lines_one (get_or rs i no_row))

-- the lines are as long as each of them together
pub length_lines : (rs : List Row) → sum_by (λ (r : Row). length (row_text r)) rs ≡ length (lines rs)
unfolding lines
length_lines [] = refl
length_lines (r ∷ rs) = sum_by-cons (λ (q : Row). length (row_text q)) r rs ∙ ap (λ (n : ℕ). length (row_text r) + n) (length_lines rs) ∙ sym (length-append (row_text r) (lines rs))

-- the lines of the first rows are no longer than those of all
pub lines_front : (rs : List Row) (i : ℕ) → length (lines (take i rs)) ≤ length (lines rs)
lines_front rs i =
    omega (arith, ap (λ (qs : List Row). length (lines qs)) (take-append-drop i rs), ap length (lines_append (take i rs) (drop i rs)), length-append (lines (take i rs)) (lines (drop i rs)))
