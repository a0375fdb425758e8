-- What is collected and filled up is the first of the order. Assumes nothing.
use Rattle.std.proofs.Common.{ap, ◌∙◌, arith}
use Rattle.paging.specs.Frames.{frames_of}
use Rattle.paging.specs.Sets.{pages}
use Rattle.paging.proofs.Sets.{flagged_low}
use Rattle.pager.proofs.Foremost.{fault_done}
use Rattle.pagers.proofs.dpmin.prepage.prepage.Goals as goal

pub returns : goal.returns
returns c =
    let f = frames_of c.args.held.now.frames in
    let M = pages c.args.held.now.set in
    let e = ap frames_of c.new-new.ensures.frames in
    let e' = ap frames_of c.collect.ensures.frames in
    let e'' = ap frames_of c.fill.ensures.frames in
    record {
      set =
          fault_done f c.args.row.now c.collect.result c.fill.result M
          (pages c.collect.new.new.set) (pages c.fill.new.new.set) (λ j. omega (arith, c.type_inv.row j)) (flagged_low c.args.held.now.set.held c.args.held.now.set.wide)
          c.collect.ensures.set c.collect.ensures.high (λ l. omega (arith, c.collect.ensures.full l, e))
          c.fill.ensures.set (omega (arith, c.fill.new.new.within, e, e', e'')) (λ l. omega (arith, c.fill.ensures.full l, e, e')) (λ h. c.fill.ensures.none (omega (arith, h, e, e')));
      frames = c.fill.ensures.frames ∙ c.collect.ensures.frames ∙ c.new-new.ensures.frames;
    }
