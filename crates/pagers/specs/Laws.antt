-- The laws that the pagers keep. Assumes nothing.
use Rattle.std.specs.Prelude.{ℕ}
use Rattle.std.proofs.Common.{arith}
use Rattle.paging.specs.declared.held.HeldPages.{HeldPages}
use Rattle.paging.specs.Frames.{frames_of}
use Rattle.paging.specs.Models.{Keeps}
use Rattle.paging.specs.Rankings.{RankingModel}
use Rattle.paging.specs.Sets.{pages}
use Rattle.paging.proofs.Foremost.{dpmin_keeps}
use Rattle.paging.proofs.OwnRuns.{run_keeps}
use Rattle.paging.proofs.Queues.{fifo_keeps}
use Rattle.pagers.specs.Tables.{codes_of}
use Rattle.pagers.specs.Hands.{queue_long}
use Rattle.pagers.specs.Pagers.{queue_of, fifo_model, fifo_room, dpmin_model, dpmin_room, ranked_model}
use Rattle.pagers.specs.declared.fifo.FifoPager.{FifoPager}
use Rattle.pagers.specs.declared.dpmin.DpminPager.{DpminPager}

pub ranked_law : (r : RankingModel) (n : ℕ) (h : HeldPages) → Keeps (frames_of h.frames) (ranked_model r (frames_of h.frames) n (pages h.set))
ranked_law r n h = run_keeps (frames_of h.frames) (record { ranking = r; count = n; held = pages h.set }) h.frames.some h.frames.most h.within

pub dpmin_law : (p : DpminPager) → Keeps (dpmin_room p) (dpmin_model p)
dpmin_law p = dpmin_keeps (frames_of p.held.frames) (pages p.held.set) p.held.frames.some p.held.frames.most p.held.within

pub fifo_law : (p : FifoPager) → Keeps (fifo_room p) (fifo_model p)
fifo_law p =
    fifo_keeps p.room (omega (arith, p.at)) p.most (queue_of p)
    (omega (arith, p.within, queue_long (codes_of p.frames) p.room p.used p.hand (omega (arith, p.wide, p.most)) p.within p.at p.filling))
