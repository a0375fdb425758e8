use Rattle.std.proofs.Common.{take}
use Rattle.listing.specs.Listings.{lines}
use Rattle.output.specs.Outputs.{Writes}
use Rattle.listing.proofs.table.put_lines.Given as goal

abbrev pub invariant-loop-row : goal.invariant-loop-row
invariant-loop-row l = Writes l.initial.output (lines (take l.row-index l.rows)) l.output
