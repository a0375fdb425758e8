-- What it does with a row. Assumes nothing.
use Rattle.std.proofs.Common.{◌≡◌, ℕ, false, List, get_or, drop, sym, refl, ap, ◌∙◌, arith}
use Rattle.paging.specs.Pages.{Pages, nothing, size, with_page}
use Rattle.paging.specs.Schedules.{pulled}
use Rattle.paging.specs.Frames.{frames_of}
use Rattle.paging.specs.Sets.{pages}
use Rattle.paging.specs.Policies.{itself}
use Rattle.paging.proofs.Sets.{none_pulled, one_pulled, size_nothing}
use Rattle.pagers.proofs.Serves.{row_is, stepped}
use Rattle.replay.specs.Flush.{flush_step}
use Rattle.replay.specs.Flushes.{flush_hit, flush_fault}
use Rattle.replay.proofs.flush.serve.FlushPagerPager.serve.Goals as goal

pub returns-in_default-clause-answer : goal.returns-in_default-clause-answer
returns-in_default-clause-answer c = sym (none_pulled (pages c.args.self.now.held.set))

pub returns-then-contains : goal.returns-then-contains
returns-then-contains c =
    let M = pages c.args.self.now.held.set in
    let x = c.in-Some.field-0.now in
    let row = row_is c.args.row.now x (sym c.in-Some.ensures.value) in
    record {
      moves = stepped flush_step itself M M _ _ row (sym (flush_hit x (drop 1 c.args.row.now) M (sym c.contains.ensures ∙ c.if-contains.true)));
      frames = refl;
      answer = sym (none_pulled M);
    }

pub returns : goal.returns
returns c =
    let M = pages c.args.self.now.held.set in
    let N = pages c.insert.new.self.set in
    let x = c.in-Some.field-0.now in
    let row = row_is c.args.row.now x (sym c.in-Some.ensures.value) in
    let out : M x ≡ false = sym c.contains.ensures ∙ c.if-contains.false in
    let free = c.insert.ensures.free (omega (arith, ap size c.new-new.ensures.set, size_nothing, c.new-new.result.frames.some)) in
    let e : N ≡ with_page x nothing = free ∙ ap (with_page x) c.new-new.ensures.set in
    record {
      moves = stepped flush_step itself N M _ _ row (e ∙ sym (flush_fault x (drop 1 c.args.row.now) M out));
      frames = ap frames_of (c.insert.ensures.frames ∙ c.new-new.ensures.frames);
      answer = sym (ap (λ (P : Pages). pulled M P) e ∙ one_pulled x M nothing (omega (arith, c.type_inv.row 0, ap (λ (r : List ℕ). get_or r 0 0) row)) out (λ k q. absurd (grind arith)));
    }
