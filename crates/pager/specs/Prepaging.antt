-- How the first pages of DPMIN's order are found. Assumes nothing.
use Rattle.std.specs.Prelude.{ℕ, ◌&&◌, ◌||◌, List, nat_lt}
use Rattle.paging.specs.Pages.{Pages}
use Rattle.paging.specs.Schedules.{next}

-- the pages among the first e references of a row
abbrev pub soon : List ℕ → ℕ → Pages
soon ys e c = nat_lt (next ys c) e

-- the set C, and the pages of M below i
abbrev pub filled : Pages → ℕ → Pages → Pages
filled C i M c = C c || (nat_lt c i && M c)
