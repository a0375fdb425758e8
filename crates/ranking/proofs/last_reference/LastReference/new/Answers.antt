use Rattle.std.proofs.Common.{ℕ, ap}
use Rattle.paging.specs.Rankings.{RankingModel, last_told}
use Rattle.ranking.proofs.Tables.{table_none}
use Rattle.ranking.proofs.last_reference.LastReference.new.Goals as goal

pub returns : goal.returns
returns c = let F : (ℕ → ℕ) → RankingModel = last_told in ap F (table_none 256)
