-- The pages counted so far. Assumes nothing.
use Rattle.std.proofs.Common.{◌≡◌, ◌≤◌}
use Rattle.paging.specs.Sets.{pages}
use Rattle.pager.proofs.Places.{fresh}
use Rattle.pagers.proofs.dpmin.prepage.count_new.Given as goal

abbrev pub invariant-loop-code : goal.invariant-loop-code
invariant-loop-code l = (l.count ≡ fresh (pages l.held) (pages l.new) l.code) × (l.count ≤ l.code)
