use Rattle.std.proofs.Common.{◌<◌, ◌/◌, ◌^◌, decimal, arith}
use Rattle.std.proofs.lemmas.Fmt.{decimal_step}
use Rattle.output.proofs.Outputs.{writes_more, room_after}
use Rattle.listing.proofs.Digits.{digit_alone, length_one, length_more}
use Rattle.listing.proofs.text.+put_digits.Goals as goal
use Rattle.listing.proofs.text.+put_digits.Goals.{then-n-ge10, else-n-ge10}

pub put_digits-requires : goal.put_digits-requires
put_digits-requires t c = (omega arith, omega (arith, c.requires, length_more c.args.n c.if-n-ge10.true (omega arith)))

pub push-requires : goal.push-requires
push-requires t c =
    elim c.if-n-ge10.branch [
      | then-n-ge10 w ↦
          rw w.output-is
          (room_after {ys = decimal (c.args.n / 10)} 1 (omega (arith, c.requires, length_more c.args.n w.if-n-ge10.true (omega arith))) w.put_digits.ensures)
      | else-n-ge10 w ↦ rw w.output-is (omega (arith, c.requires, length_one c.args.n w.if-n-ge10.false))
    ]

pub returns : goal.returns
returns t c =
    elim c.if-n-ge10.branch [
      | then-n-ge10 w ↦
          let f : c.args.n < 2 ^ 64 = omega arith in
          rw (decimal_step c.args.n w.if-n-ge10.true f) (writes_more w.put_digits.ensures (rw w.output-is at c.push.ensures))
      | else-n-ge10 w ↦ rw (digit_alone c.args.n w.if-n-ge10.false) (rw w.output-is at c.push.ensures)
    ]
