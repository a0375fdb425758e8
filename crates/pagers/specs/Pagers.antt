-- What each pager of the code stands for. Assumes nothing.
use Rattle.std.specs.Prelude.{ℕ, List}
use Rattle.paging.specs.Models.{PagerModel, stepping}
use Rattle.paging.specs.Frames.{frames_of}
use Rattle.paging.specs.Pages.{Pages}
use Rattle.paging.specs.Sets.{pages}
use Rattle.paging.specs.Rankings.{RankingModel, own_step, own_held}
use Rattle.paging.specs.Policies.{fifo, dpmin}
use Rattle.pagers.specs.Tables.{codes_of, queue}
use Rattle.pagers.specs.declared.fifo.FifoPager.{FifoPager}
use Rattle.pagers.specs.declared.dpmin.DpminPager.{DpminPager}

-- the pages held, the one pulled longest ago first
abbrev pub queue_of : FifoPager → List ℕ
queue_of p = queue p.used p.hand (codes_of p.frames)

-- FIFO with that queue
abbrev pub fifo_model : FifoPager → PagerModel
fifo_model p = fifo p.room (queue_of p)

-- its frame count
abbrev pub fifo_room : FifoPager → ℕ
fifo_room p = p.room

-- DPMIN with those pages held
abbrev pub dpmin_model : DpminPager → PagerModel
dpmin_model p = dpmin (frames_of p.held.frames) (pages p.held.set)

-- its frame count
abbrev pub dpmin_room : DpminPager → ℕ
dpmin_room p = frames_of p.held.frames

-- a ranking's own run in f frames, from after n references on
abbrev pub ranked_model : RankingModel → ℕ → ℕ → Pages → PagerModel
ranked_model r f n M = stepping (own_step f) own_held (record { ranking = r; count = n; held = M })
