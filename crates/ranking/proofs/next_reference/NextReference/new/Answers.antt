use Rattle.std.proofs.Common.{ℕ, ap}
use Rattle.paging.specs.Rankings.{RankingModel, next_told}
use Rattle.ranking.proofs.Tables.{table_none}
use Rattle.ranking.proofs.next_reference.NextReference.new.Goals as goal

pub returns : goal.returns
returns c = let F : (ℕ → ℕ) → RankingModel = next_told in ap F (table_none 256)
