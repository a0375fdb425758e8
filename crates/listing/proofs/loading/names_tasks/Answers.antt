use Rattle.std.proofs.Common.{arith}
use Rattle.listing.proofs.KindBits.{kind_bits}
use Rattle.listing.proofs.loading.names_tasks.Goals as goal

pub returns : goal.returns
returns c = grind (arith, kind_bits c.args.recording.now)
