use Rattle.ranking.proofs.Edges.{edge_of}
use Rattle.ranking.proofs.theorems.edges_stand.Goals as goal

pub returns : goal.returns
returns c = edge_of
