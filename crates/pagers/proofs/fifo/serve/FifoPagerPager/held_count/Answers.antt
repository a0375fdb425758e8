-- The queue names no page twice. Assumes nothing.
use Rattle.std.proofs.Common.{sym, ◌∙◌, arith}
use Rattle.paging.proofs.Queues.{size_once}
use Rattle.pagers.specs.Tables.{codes_of}
use Rattle.pagers.specs.Pagers.{queue_of}
use Rattle.pagers.specs.Hands.{queue_long}
use Rattle.pagers.proofs.fifo.serve.FifoPagerPager.held_count.Goals as goal

pub returns : goal.returns
returns c =
    let s = c.args.self.now in
    sym (
    size_once (queue_of s) s.apart s.low ∙
    queue_long (codes_of s.frames) s.room s.used s.hand (omega (arith, s.wide, s.most)) s.within s.at s.filling)
