use Rattle.std.proofs.Common.{◌≡◌, ℕ, ◌+◌, ◌<◌, get_or}
use Rattle.evaluator.specs.Strings.{string}
use Rattle.listing.specs.Listings.{row_of}
use Rattle.listing.proofs.Tables.{no_row}
use Rattle.listing.proofs.figures.fill_rows.Given as goal

abbrev pub invariant-loop-k : goal.invariant-loop-k
invariant-loop-k l = (j : ℕ) → j < l.k → get_or l.rows j no_row ≡ row_of (string l.trial) (j + 1)
