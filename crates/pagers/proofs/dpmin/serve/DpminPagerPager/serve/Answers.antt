-- What DPMIN does with a row. Assumes nothing.
use Rattle.std.proofs.Common.{drop, sym, refl, ◌∙◌}
use Rattle.paging.specs.Frames.{frames_of}
use Rattle.paging.specs.Sets.{pages}
use Rattle.paging.specs.Policies.{dpmin_step, itself}
use Rattle.paging.proofs.Sets.{none_pulled}
use Rattle.paging.proofs.Foremost.{dpmin_hit}
use Rattle.pagers.proofs.Serves.{row_is, stepped}
use Rattle.pagers.proofs.dpmin.serve.DpminPagerPager.serve.Goals as goal

pub returns-in_default-clause-answer : goal.returns-in_default-clause-answer
returns-in_default-clause-answer c = sym (none_pulled (pages c.args.self.now.held.set))

pub returns-then-contains : goal.returns-then-contains
returns-then-contains c =
    let f = frames_of c.args.self.now.held.frames in
    let M = pages c.args.self.now.held.set in
    let x = c.in-Some.field-0.now in
    let row = row_is c.args.row.now x (sym c.in-Some.ensures.value) in
    record {
      moves = stepped (dpmin_step f) itself M M _ _ row (sym (dpmin_hit f x (drop 1 c.args.row.now) M (sym c.contains.ensures ∙ c.if-contains.true)));
      frames = refl;
      answer = sym (none_pulled M);
    }
