-- The frames that are still to be looked at. Assumes nothing.
use Rattle.std.proofs.Common.{◌≡◌, drop}
use Rattle.paging.specs.Pages.{has}
use Rattle.pagers.specs.Tables.{codes_of}
use Rattle.pagers.proofs.fifo.FifoPager.has.Given as goal

abbrev pub invariant-loop-frame : goal.invariant-loop-frame
invariant-loop-frame l = has (codes_of l.frame-items) l.code ≡ has (drop l.frame-index (codes_of l.frame-items)) l.code
