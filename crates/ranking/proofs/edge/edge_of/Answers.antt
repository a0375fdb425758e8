use Rattle.std.proofs.Common.{ℕ, List, ap, ◌∙◌}
use Rattle.ranking.specs.Stack.{pass_row}
use Rattle.ranking.specs.Edges.{edge, at_count, faults_at}
use Rattle.ranking.proofs.Edges.{edge_same, pass_row_at}
use Rattle.ranking.proofs.edge.edge_of.Goals as goal

pub returns : goal.returns
returns g c =
    let r = g.R.Ranking.order c.args.ranking in
    let s = c.args.string.now in
    c.edge_in.ensures ∙ ap (λ (row : List ℕ). edge (at_count row) c.args.ceiling) c.pass.ensures.faults ∙
    edge_same (at_count (pass_row r s)) (faults_at r s) c.args.ceiling (pass_row_at r s)
