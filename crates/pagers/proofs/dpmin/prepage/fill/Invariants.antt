-- The codes looked at so far. Assumes nothing.
use Rattle.std.proofs.Common.{◌≡◌, ◌≤◌}
use Rattle.paging.specs.Frames.{frames_of}
use Rattle.paging.specs.Pages.{size}
use Rattle.paging.specs.Sets.{pages}
use Rattle.pager.specs.Prepaging.{filled}
use Rattle.pagers.proofs.dpmin.prepage.fill.Given as goal

abbrev pub invariant-loop-code : goal.invariant-loop-code
invariant-loop-code l =
    (pages l.new.set ≡ filled (pages l.initial.new.set) l.code (pages l.held)) × (l.new.frames ≡ l.initial.new.frames)
    × (frames_of l.initial.new.frames ≤ size (pages l.initial.new.set) → l.code ≡ 0)
