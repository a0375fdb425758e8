use Rattle.std.proofs.Common.{◌-◌, get_or, sym, ap, ◌∙◌, arith}
use Rattle.paging.specs.Pages.{Pages, without}
use Rattle.paging.specs.Sets.{pages}
use Rattle.evaluator.proofs.Windows.{slide_short, slide_stays, slide_goes}
use Rattle.evaluator.proofs.working.window.slide_set.Goals as goal

pub returns-then-places-left : goal.returns-then-places-left
returns-then-places-left c k =
    let s = c.args.codes.now in
    let t = c.args.t in
    let y = get_or s (t - c.args.width) 0 in
    ap (λ (M : Pages). M k) (c.remove.ensures ∙ ap (without y) c.insert.ensures) ∙
    slide_goes c.args.width s t c.requires.within (pages c.args.set.now) c.requires.before c.if-t-width.true
    (sym (c.requires.table y (omega (arith, c.type_inv.codes (t - c.args.width)))) ∙ c.if-places-left.true) k

pub returns-else-places-left : goal.returns-else-places-left
returns-else-places-left c k =
    let s = c.args.codes.now in
    let t = c.args.t in
    let y = get_or s (t - c.args.width) 0 in
    ap (λ (M : Pages). M k) c.insert.ensures ∙
    slide_stays c.args.width s t c.requires.within (pages c.args.set.now) c.requires.before c.if-t-width.true
    (λ e. c.if-places-left.false (c.requires.table y (omega (arith, c.type_inv.codes (t - c.args.width))) ∙ e)) k

pub returns-else-t-width : goal.returns-else-t-width
returns-else-t-width c k =
    ap (λ (M : Pages). M k) c.insert.ensures ∙
    slide_short c.args.width c.args.codes.now c.args.t c.requires.within (pages c.args.set.now) c.requires.before c.if-t-width.false k
