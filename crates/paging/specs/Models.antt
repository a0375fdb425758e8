-- Pagers by what they do: what is held after being served any rows. Assumes nothing.
use Rattle.std.specs.Prelude.{◌≡◌, ℕ, zero, suc, ◌<◌, ◌≤◌, true, List, [], ◌∷◌, ◌++◌, length}
use Rattle.paging.specs.Pages.{codes, Pages, size}
use Rattle.paging.specs.Schedules.{Holding, faults, pulls}

-- a pager: the set held after being served those rows, the first of them first
abbrev pub PagerModel : Type 0
PagerModel = List (List ℕ) → Pages

-- the pager from after one row on
abbrev pub served : PagerModel → List ℕ → PagerModel
served b r = λ rs. b (r ∷ rs)

-- one serve of a row that begins with x, from the set M to the set N, in f frames
pub record Serve (f x : ℕ) (M N : Pages) : Type 0 where
  pub first : N x ≡ true
  pub within : size N ≤ f
  pub only : M x ≡ true → (c : ℕ) → c < codes → N c ≡ true → M c ≡ true

-- the laws of a pager with f frames, at the start and after every row
pub record Keeps (f : ℕ) (b : PagerModel) : Type 0 where
  pub some : 1 ≤ f
  pub most : f ≤ 64
  pub within : (rs : List (List ℕ)) → size (b rs) ≤ f
  pub still : (rs us : List (List ℕ)) → b (rs ++ [] ∷ us) ≡ b (rs ++ us)
  pub serves : (rs : List (List ℕ)) (x : ℕ) (xs : List ℕ) → x < codes → Serve f x (b rs) (b (rs ++ (x ∷ xs) ∷ []))

-- a pager that keeps a state: the step at each row, and the set that a state holds
abbrev pub stepping : {S : Type 0} → (List ℕ → S → S) → (S → Pages) → S → PagerModel
stepping step held q [] = held q
stepping step held q (r ∷ rs) = stepping step held (step r q) rs

-- the pager after the first t places of a string, at each of which it is served the row from there to the end
abbrev pub after : PagerModel → List ℕ → ℕ → PagerModel
after b s zero = b
after b [] (suc t) = b
after b (x ∷ xs) (suc t) = after (served b (x ∷ xs)) xs t

-- what the pager holds at each place of a string
abbrev pub held_on : PagerModel → List ℕ → Holding
held_on b s t = after b s t []

-- its fault instants, and its pulls, over the whole string
abbrev pub instants_on : PagerModel → List ℕ → ℕ
instants_on b s = faults s (held_on b s) (length s)

abbrev pub pulls_on : PagerModel → List ℕ → ℕ
pulls_on b s = pulls (held_on b s) (length s)
