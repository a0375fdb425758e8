use Rattle.std.proofs.Common.{[], arith}
use Rattle.std.proofs.lemmas.Bool.{eq-eqb}
use Rattle.ranking.proofs.Settles.{found}
use Rattle.ranking.proofs.stack.moves.sift.Goals as goal

pub returns-then-entry-code : goal.returns-then-entry-code
returns-then-entry-code g c =
    found (g.R.Ranking.order c.args.ranking.now []) c.args.code c.loop-entry.pages c.loop-entry.carried c.loop-entry.entry-index _ c.loop-entry.invariant
    (omega (arith, c.loop-entry-test.true, c.loop-entry.auto.pages)) (eq-eqb _ _ c.if-entry-code.true)
