use Rattle.output.proofs.Outputs.{writes_more}
use Rattle.listing.proofs.text.put_field.Goals as goal

pub returns : goal.returns
returns c = writes_more c.put_digits.ensures c.push.ensures
