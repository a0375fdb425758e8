use Rattle.std.proofs.Common.{rules}
use Rattle.output.proofs.Outputs.{writes_more}
use Rattle.listing.proofs.text.RowText.put.Goals as goal

pub returns : goal.returns
returns c = search (rules, writes_more)
