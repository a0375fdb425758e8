-- Strings of page references, and schedules of them. Assumes nothing.
use Rattle.std.specs.Prelude.{◌≡◌, ℕ, zero, suc, ◌<◌, ◌≤◌, true, cond, not, ◌&&◌, List, [], ◌∷◌, length, ◌==◌, slice_index}
use Rattle.paging.specs.Pages.{bit, total, codes, Pages, size}

-- each reference of the string is to a page
abbrev pub Coded : List ℕ → Type 0
Coded s = (t : ℕ) → t < length s → slice_index s t < codes

-- the next reference to the page c in what is left of the string: 0 is the reference at hand, and the length stands for never
unfoldable pub next : List ℕ → ℕ → ℕ
next [] c = 0
next (x ∷ xs) c = cond (x == c) 0 (suc (next xs c))

-- the place, from 1, of the latest reference to the page c among the first t, or 0 for none
unfoldable pub latest : List ℕ → ℕ → ℕ → ℕ
latest s zero c = 0
latest s (suc t) c = cond (slice_index s t == c) (suc t) (latest s t c)

-- what is held at each place; place 0 is before the first reference, and place suc t is that of the reference number t
abbrev pub Holding : Type 0
Holding = ℕ → Pages

-- the first p places of a schedule of the string s in f frames, from the set B
pub record ScheduleTo (p f : ℕ) (B : Pages) (s : List ℕ) (H : Holding) : Type 0 where
  pub starts : (c : ℕ) → c < codes → H 0 c ≡ B c
  pub fits : (t : ℕ) → t ≤ p → size (H t) ≤ f
  pub serves : (t : ℕ) → t < p → H (suc t) (slice_index s t) ≡ true

-- a schedule of the whole string
abbrev pub Schedule : ℕ → Pages → List ℕ → Holding → Type 0
Schedule f B s H = ScheduleTo (length s) f B s H

-- over its first p places, the schedule pulls pages only at its fault instants
abbrev pub PrepagesTo : ℕ → List ℕ → Holding → Type 0
PrepagesTo p s H =
    (t : ℕ) → t < p → H t (slice_index s t) ≡ true → (c : ℕ) → c < codes → H (suc t) c ≡ true → H t c ≡ true

-- a demand prepaging schedule
abbrev pub Prepages : List ℕ → Holding → Type 0
Prepages s H = PrepagesTo (length s) s H

-- the pages held in N and not in M
abbrev pub pulled : Pages → Pages → ℕ
pulled M N = total codes (λ c. bit (N c && not (M c)))

-- the pulls of the first p places
abbrev pub pulls : Holding → ℕ → ℕ
pulls H p = total p (λ t. pulled (H t) (H (suc t)))

-- the releases of the first p places: a release is a pull looked at from the other side
abbrev pub releases : Holding → ℕ → ℕ
releases H p = total p (λ t. pulled (H (suc t)) (H t))

-- the fault instants among the first p places
abbrev pub faults : List ℕ → Holding → ℕ → ℕ
faults s H p = total p (λ t. bit (not (H t (slice_index s t))))

-- the place of the latest pull of the page c among the first t, or 0 for none
unfoldable pub pull_place : Holding → ℕ → ℕ → ℕ
pull_place H zero c = 0
pull_place H (suc t) c = cond (H (suc t) c && not (H t c)) (suc t) (pull_place H t c)
