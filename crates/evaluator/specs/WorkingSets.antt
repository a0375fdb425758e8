-- Working sets. Assumes nothing.
use Rattle.std.specs.Prelude.{◌≡◌, ℕ, suc, ◌-◌, ◌<◌, cond, ◌&&◌, List, length, take, drop, Ok, Err, Result, nat_le, slice_index}
use Rattle.paging.specs.declared.refusal.Refusal.{Refusal}
use Rattle.paging.specs.declared.refusal.Refusal.TheVariants.{BadWindow}
use Rattle.paging.specs.Pages.{total, codes, Pages, size, has}
use Rattle.paging.specs.Schedules.{Holding, faults, latest}

-- the working set at each place: the pages of the last w places up to it
abbrev pub working_set : ℕ → List ℕ → Holding
working_set w s t = has (drop (t - w) (take t s))

-- the places whose page was not in the set one place before, and the sum of the sizes of all sets
abbrev pub missing : ℕ → List ℕ → ℕ
missing w s = faults s (working_set w s) (length s)

abbrev pub sizes_to : ℕ → List ℕ → ℕ → ℕ
sizes_to w s p = total p (λ t. size (working_set w s (suc t)))

abbrev pub sizes : ℕ → List ℕ → ℕ
sizes w s = sizes_to w s (length s)

abbrev pub working_answer : ℕ → List ℕ → Result (ℕ × ℕ) Refusal
working_answer w s = cond (nat_le 1 w && nat_le w 4096) (Ok (missing w s, sizes w s)) (Err BadWindow)

-- the set M is the working set at t, and the table has the latest place of each page among the first t
abbrev pub Windowed : ℕ → List ℕ → ℕ → Pages → Type 0
Windowed w s t M = (c : ℕ) → M c ≡ working_set w s t c

abbrev pub Latest : List ℕ → ℕ → List ℕ → Type 0
Latest s t places = (c : ℕ) → c < codes → slice_index places c ≡ latest s t c
