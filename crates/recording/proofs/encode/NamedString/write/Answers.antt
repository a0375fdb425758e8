-- Each turn writes one byte.
use Rattle.std.proofs.Common.{arith, rules}
use Rattle.recording.proofs.Written.{written_none, written_more}
use Rattle.recording.proofs.encode.NamedString.write.Goals as goal

pub loop-i-init : goal.loop-i-init
loop-i-init g c = written_none _ _

pub loop-i-preserved : goal.loop-i-preserved
loop-i-preserved g c = written_more _ _ _ _ _ c.loop-i.invariant (c.number_at.ensures.number _ (λ k r p. search rules)) (omega arith)
