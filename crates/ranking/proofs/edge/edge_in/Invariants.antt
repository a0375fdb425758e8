use Rattle.std.proofs.Common.{◌≡◌, suc, ◌-◌}
use Rattle.ranking.specs.Edges.{edge_from, edge, at_count}
use Rattle.ranking.proofs.edge.edge_in.Given as goal

abbrev pub invariant-loop-k : goal.invariant-loop-k
invariant-loop-k l = edge (at_count l.row) l.ceiling ≡ edge_from (at_count l.row) l.ceiling (suc l.k) (64 - l.k)
