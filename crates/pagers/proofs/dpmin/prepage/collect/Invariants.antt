-- The references collected so far. Assumes nothing.
use Rattle.std.proofs.Common.{◌≡◌}
use Rattle.paging.specs.Sets.{pages}
use Rattle.pager.specs.Prepaging.{soon}
use Rattle.pagers.proofs.dpmin.prepage.collect.Given as goal

abbrev pub invariant-loop-end : goal.invariant-loop-end
invariant-loop-end l = (pages l.new.set ≡ soon l.row l.end) × (l.new.frames ≡ l.initial.new.frames)
