-- One code more. Assumes nothing.
use Rattle.std.proofs.Common.{◌≡◌, ℕ, ◌+◌, ◌≤◌, sym, ap, ◌∙◌, subst, arith, rules}
use Rattle.paging.specs.Frames.{frames_of}
use Rattle.paging.specs.Pages.{size, with_page}
use Rattle.paging.specs.Sets.{pages}
use Rattle.pager.specs.Prepaging.{filled}
use Rattle.pager.proofs.Foremost.{filled_yes, filled_no, size_filled}
use Rattle.pagers.proofs.dpmin.prepage.fill.Goals as goal
use Rattle.pagers.proofs.dpmin.prepage.fill.Goals.{Joined-contains, then-contains, else-contains}

one_more : (c : Joined-contains) →
    (pages c.if-contains.new.set ≡ filled (pages c.args.new.now.set) (c.loop-code.code + 1) (pages c.args.held.now)) × (c.if-contains.new.frames ≡ c.args.new.now.frames)
one_more c =
    let C = pages c.args.new.now.set in
    let M = pages c.args.held.now in
    let i = c.loop-code.code in
    let inv = c.loop-code.invariant in
    let full : frames_of c.loop-code.new.frames ≤ size (pages c.loop-code.new.set) → ⊥ = λ h. search rules in
    elim c.if-contains.branch [
      | then-contains w ↦ simp w.new-is (
        w.insert.ensures.free (omega (arith, full)) ∙ ap (with_page i) inv.0 ∙ filled_yes C M i (sym c.contains.ensures ∙ w.if-contains.true),
        w.insert.ensures.frames ∙ inv.1,
      )
      | else-contains w ↦ simp w.new-is (inv.0 ∙ filled_no C M i (sym c.contains.ensures ∙ w.if-contains.false), inv.1)
    ]

-- the frames were not full from the first
some_free : (c : Joined-contains) → frames_of c.args.new.now.frames ≤ size (pages c.args.new.now.set) → ⊥
some_free c h =
    let C = pages c.args.new.now.set in
    let M = pages c.args.held.now in
    let full : frames_of c.loop-code.new.frames ≤ size (pages c.loop-code.new.set) → ⊥ = λ h. search rules in
    full (omega (arith, h, ap frames_of c.loop-code.invariant.1, ap size c.loop-code.invariant.0, size_filled C c.loop-code.code M))

pub loop-code-preserved : goal.loop-code-preserved
loop-code-preserved c =
    let j = (goal.at.loop-code-preserved c).Joined-contains in
    ((one_more j).0, (one_more j).1, λ h. absurd (some_free j h))

pub returns-after-contains : goal.returns-after-contains
returns-after-contains c =
    let j = (goal.at.returns-after-contains c).Joined-contains in
    record {
      set = subst (λ (n : ℕ). pages c.if-contains.new.set ≡ filled (pages c.args.new.now.set) n (pages c.args.held.now)) (omega arith) (one_more j).0;
      frames = (one_more j).1;
      full = λ l. absurd (omega arith);
      none = λ h. absurd (some_free j h);
    }
