use Rattle.std.proofs.Common.{codes}
use Rattle.output.proofs.Outputs.{writes_more}
use Rattle.listing.proofs.refused.LoadFaultText.put.Goals as goal

pub returns : goal.returns
returns c =
    rw (← c.number.ensures, ← c.from.ensures, ← c.layer_word.ensures.word)
    (writes_more {ys = codes "refused,"} c.extend_from_slice.ensures
    (writes_more c.put_field.ensures (writes_more c.extend_from_slice-2.ensures c.put_field-2.ensures)))
