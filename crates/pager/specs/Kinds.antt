-- The kinds of move. Assumes nothing.
use Rattle.std.specs.Prelude.{ℕ}
use Rattle.paging.specs.Pages.{Pages}
use Rattle.pager.specs.Plans.{less}
use Rattle.pager.specs.declared.plans.Kind.{Kind}
use Rattle.pager.specs.declared.plans.Kind.TheVariants.{Release, Pull}

-- the bit of a kind in a word
abbrev pub kind_bit : Kind → ℕ
kind_bit Release = 0
kind_bit Pull = 1

-- the pages that moves of a kind move, from the set M to the set N
abbrev pub moved : Kind → Pages → Pages → Pages
moved Release M N = less M N
moved Pull M N = less N M
