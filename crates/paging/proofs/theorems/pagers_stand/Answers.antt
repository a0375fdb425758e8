use Rattle.paging.proofs.Models.{pager_schedules}
use Rattle.paging.proofs.Foremost.{dpmin_keeps}
use Rattle.paging.proofs.OwnRuns.{own_keeps}
use Rattle.paging.proofs.Queues.{fifo_keeps}
use Rattle.paging.proofs.theorems.pagers_stand.Goals as goal

pub returns : goal.returns
returns c = record { schedule = pager_schedules; dpmin = dpmin_keeps; own = own_keeps; fifo = fifo_keeps }
