-- Each turn asks one bit more.
use Rattle.recording.proofs.Bitwise.{number_none, bit_none, number_more, bit_more}
use Rattle.recording.proofs.bits.number_at.Goals as goal

pub loop-k-init : goal.loop-k-init
loop-k-init g c = record { is = λ b p. number_none b c.args.i; fits = bit_none c.args.i }

pub loop-k-preserved : goal.loop-k-preserved
loop-k-preserved g c =
    record {
      is = λ b p. number_more b _ _ _ _ c.loop-k.auto.k (c.loop-k.invariant.is b p) (p _ _ c.bit.ensures);
      fits = bit_more _ _ _ _ c.loop-k.auto.k c.loop-k.invariant.fits (c.requires.bits _ _ c.bit.ensures);
    }
