use Rattle.std.proofs.Common.{ℕ, ◌-◌, List, [], refl, sym, ap, ◌∙◌, arith}
use Rattle.std.proofs.lemmas.List.{get_or-replicate, drop_all}
use Rattle.paging.specs.Pages.{Pages, has}
use Rattle.evaluator.proofs.Windows.{latest_none}
use Rattle.evaluator.proofs.working.window.Window.over.Goals as goal

pub invariant_of-result : goal.invariant_of-result
invariant_of-result c =
    record {
      few = c.codes.ensures.few;
      some = c.requires;
      within = omega arith;
      wide = refl;
      windowed = λ k. ap (λ (M : Pages). M k) c.new.ensures ∙ ap (λ (ys : List ℕ). has ys k) (sym (drop_all (0 - c.args.width) [] (omega arith)));
      table = λ k lk. get_or-replicate 256 k 0 0 lk ∙ sym (latest_none c.codes.result.now k);
    }
