-- Sets of pages, and how many pages they have. Assumes nothing.
use Rattle.std.specs.Prelude.{ℕ, zero, suc, ◌+◌, Bool, true, false, not, ◌&&◌, ◌||◌, List, [], ◌∷◌, ◌==◌}

-- one for true, nothing for false
abbrev pub bit : Bool → ℕ
bit true = 1
bit false = 0

-- g 0 + .. + g (n - 1)
unfoldable pub total : ℕ → (ℕ → ℕ) → ℕ
total zero g = 0
total (suc n) g = g n + total n g

-- a page is named by a code below this
abbrev pub codes : ℕ
codes = 256

-- a set of pages
abbrev pub Pages : Type 0
Pages = ℕ → Bool

abbrev pub nothing : Pages
nothing c = false

-- how many pages a set has
abbrev pub size : Pages → ℕ
size M = total codes (λ c. bit (M c))

abbrev pub with_page : ℕ → Pages → Pages
with_page x M c = x == c || M c

abbrev pub without : ℕ → Pages → Pages
without z M c = not (z == c) && M c

-- the set of the codes in a list
abbrev pub has : List ℕ → Pages
has [] c = false
has (x ∷ xs) c = x == c || has xs c
