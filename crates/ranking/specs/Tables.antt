-- LRU's and MIN's rankings as their tables have them. Assumes nothing.
use Rattle.std.specs.Prelude.{ℕ, List, slice_index}
use Rattle.paging.specs.Rankings.{RankingModel, last_told, next_told}
use Rattle.ranking.specs.declared.last_reference.LastReference.{LastReference}
use Rattle.ranking.specs.declared.next_reference.NextReference.{NextReference}

-- a list of numbers as a table
abbrev pub table : List ℕ → ℕ → ℕ
table xs c = slice_index xs c

abbrev pub last_order : LastReference → RankingModel
last_order s = last_told (table s.places)

abbrev pub next_order : NextReference → RankingModel
next_order s = next_told (table s.places)
