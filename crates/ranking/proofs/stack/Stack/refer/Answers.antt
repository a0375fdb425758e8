use Rattle.std.proofs.Common.{[], sym, ◌∙◌}
use Rattle.ranking.proofs.Settles.{on_top}
use Rattle.ranking.proofs.stack.Stack.refer.Goals as goal

pub returns-then-is_top-clause-settled : goal.returns-then-is_top-clause-settled
returns-then-is_top-clause-settled g c =
    on_top (g.R.Ranking.order c.args.ranking.now []) c.args.code c.args.self.now c.is_top.ensures.few (sym c.is_top.ensures.top ∙ c.if-is_top.true)
