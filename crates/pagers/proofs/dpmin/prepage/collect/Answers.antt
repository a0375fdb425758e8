-- One reference more. Assumes nothing.
use Rattle.std.proofs.Common.{◌≤◌, get_or, refl, ap, ◌∙◌, arith, rules}
use Rattle.paging.specs.Frames.{frames_of}
use Rattle.paging.specs.Pages.{size, with_page}
use Rattle.paging.specs.Sets.{pages}
use Rattle.pager.proofs.Foremost.{soon_none, soon_more}
use Rattle.pagers.proofs.dpmin.prepage.collect.Goals as goal

pub loop-end-init : goal.loop-end-init
loop-end-init c = (c.requires ∙ soon_none c.args.row.now, refl)

pub loop-end-preserved : goal.loop-end-preserved
loop-end-preserved c =
    let x = get_or c.args.row.now c.loop-end.end 0 in
    let full : frames_of c.loop-end.new.frames ≤ size (pages c.loop-end.new.set) → ⊥ = λ h. search rules in (
      c.insert.ensures.free (omega (arith, full)) ∙ ap (with_page x) c.loop-end.invariant.0 ∙ soon_more c.args.row.now c.loop-end.end c.loop-end-test.true,
      c.insert.ensures.frames ∙ c.loop-end.invariant.1,
    )
