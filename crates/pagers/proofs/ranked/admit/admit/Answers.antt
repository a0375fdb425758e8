-- What is held after a reference, and what came. Assumes nothing.
use Rattle.std.proofs.Common.{◌≡◌, ◌<◌, ◌≤◌, true, false, [], sym, refl, ap, ◌∙◌, subst, arith, rules}
use Rattle.paging.specs.Frames.{frames_of}
use Rattle.paging.specs.Pages.{codes, size, with_page, without}
use Rattle.paging.specs.Schedules.{pulled}
use Rattle.paging.specs.Rankings.{admit, hindmost}
use Rattle.paging.specs.Sets.{pages}
use Rattle.paging.specs.declared.held.HeldPages.{HeldPages}
use Rattle.paging.proofs.Sets.{size_out}
use Rattle.paging.proofs.OwnRuns.{admit_hit, admit_room, admit_full, hindmost_goes, hindmost_low}
use Rattle.pagers.proofs.Admits.{hit_pulled, fault_pulled}
use Rattle.pagers.proofs.ranked.admit.admit.Goals as goal
use Rattle.pagers.proofs.ranked.admit.admit.Goals.{then-is_full, else-is_full}

pub returns-then-contains : goal.returns-then-contains
returns-then-contains g c =
    let M = pages c.args.held.now.set in
    let f = frames_of c.args.held.now.frames in
    let z = hindmost (g.R.Ranking.order c.args.ranking.now []) codes M in
    let h : M c.args.code ≡ true = sym c.contains.ensures ∙ c.if-contains.true in
    record {
      set = sym (admit_hit f z c.args.code M h);
      frames = refl;
      answer = sym (ap (pulled M) (sym (admit_hit f z c.args.code M h)) ∙ hit_pulled f z c.args.code M h);
    }

pub returns : goal.returns
returns g c =
    let M = pages c.args.held.now.set in
    let f = frames_of c.args.held.now.frames in
    let o = g.R.Ranking.order c.args.ranking.now [] in
    let z = hindmost o codes M in
    let x = c.args.code in
    let m : M x ≡ false = sym c.contains.ensures ∙ c.if-contains.false in
    let E : HeldPages → Type 0 = λ h. (size (pages h.set) < frames_of h.frames) × (with_page x (pages h.set) ≡ admit f z x M) × (h.frames ≡ c.args.held.now.frames) in
    let e : E c.if-is_full.held =
    elim c.if-is_full.branch [
      | then-is_full w ↦
          let many : f ≤ size M = search rules in
          let gone : pages w.remove.new.self.set ≡ without z M = w.remove.ensures.set ∙ ap (λ y. without y M) w.hindmost-out.ensures in
          let less = size_out z M (hindmost_low o M) (hindmost_goes o f M c.args.held.now.frames.some many) in
          subst E (sym w.held-is) (
            omega (arith, ap size gone, less, ap frames_of w.remove.ensures.frames, c.args.held.now.within),
            ap (with_page x) gone ∙ sym (admit_full f z x M m many),
            w.remove.ensures.frames,
          )
      | else-is_full w ↦
          let full : f ≤ size M → ⊥ = λ h. search rules in
          let few : size M < f = omega (arith, full) in
          subst E (sym w.held-is) (few, sym (admit_room f z x M m few), refl)
    ] in
    let now = c.insert.ensures.free e.0 ∙ e.1 in
    record {
      set = now;
      frames = c.insert.ensures.frames ∙ e.2;
      answer = sym (ap (pulled M) now ∙ fault_pulled f z x M (omega arith) m);
    }
