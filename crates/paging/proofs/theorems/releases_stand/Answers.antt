use Rattle.paging.proofs.FirstPages.{dpmin_holds_first_pages}
use Rattle.paging.proofs.OwnRuns.{own_releases_hindmost}
use Rattle.paging.proofs.MinRun.{min_releases_furthest}
use Rattle.paging.proofs.LruRun.{lru_releases_oldest}
use Rattle.paging.proofs.FifoRun.{fifo_releases_longest_held}
use Rattle.paging.proofs.Demands.{own_pulls_at_faults}
use Rattle.paging.proofs.theorems.releases_stand.Goals as goal

pub returns : goal.returns
returns c =
    record { own = own_releases_hindmost; min = min_releases_furthest; lru = lru_releases_oldest; fifo = fifo_releases_longest_held; dpmin = dpmin_holds_first_pages; pulls = own_pulls_at_faults }
