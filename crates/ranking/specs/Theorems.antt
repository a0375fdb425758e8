-- What is proved of all rankings and of all edges. Assumes nothing.
use Rattle.std.specs.Prelude.{◌≡◌, ℕ, suc, ◌≤◌, true, List, length}
use Rattle.paging.specs.Schedules.{Coded}
use Rattle.paging.specs.Models.{held_on}
use Rattle.paging.specs.Rankings.{RankingModel, Orders, own}
use Rattle.ranking.specs.Edges.{faults_at, Falls, EdgeOf}

-- at every place of a string, what a ranking's own run holds in f frames it holds in one frame more
abbrev pub Inclusion : Type 0
Inclusion =
    (r : RankingModel) → Orders r → (s : List ℕ) → Coded s → (f t c : ℕ) → 1 ≤ f → t ≤ length s →
    held_on (own r f) s t c ≡ true → held_on (own r (suc f)) s t c ≡ true

-- so it faults no more often
abbrev pub FaultsFall : Type 0
FaultsFall = (r : RankingModel) → Orders r → (s : List ℕ) → Coded s → Falls (faults_at r s)

abbrev pub EdgesStand : Type 0
EdgesStand = (g : ℕ → ℕ) (ceiling : ℕ) → EdgeOf g ceiling
