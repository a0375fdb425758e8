use Rattle.std.proofs.Common.{refl, add-one, arith}
use Rattle.std.proofs.lemmas.List.{set_split}
use Rattle.output.proofs.Output.push.Goals as goal

pub returns : goal.returns
returns g c =
    let o = c.args.self.now in
    record {
      wrote = record { items = rw (add-one o.count) (set_split o.memory.now o.count c.args.item (omega arith)); ends = refl };
      lender = refl;
    }
