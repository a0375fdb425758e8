use Rattle.std.proofs.Common.{refl}
use Rattle.evaluator.proofs.Guaranteed.{guarantee}
use Rattle.evaluator.proofs.Trial.new.Goals as goal

pub returns : goal.returns
returns c = record { string = refl; guarantee = guarantee }
