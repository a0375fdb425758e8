use Rattle.std.proofs.Common.{arith}
use Rattle.listing.proofs.Digits.{length_by_power, length_at_least_one}
use Rattle.listing.proofs.text.digit_count.Goals as goal

pub returns-clause-value : goal.returns-clause-value
returns-clause-value c =
    omega (
      arith,
      rw c.max.ensures at (length_by_power c.ilog10.result c.max.result c.ilog10.ensures.power_le c.ilog10.ensures.next_power_gt (omega arith)),
      length_at_least_one c.args.n,
    )
