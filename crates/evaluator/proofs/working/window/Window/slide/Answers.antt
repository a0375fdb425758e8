use Rattle.std.proofs.Common.{◌+◌, get_or, set, arith, length-set}
use Rattle.evaluator.specs.WorkingSets.{Latest}
use Rattle.evaluator.proofs.Windows.{latest_set}
use Rattle.evaluator.proofs.working.window.Window.slide.Goals as goal

pub slide_set-requires-clause-table : goal.slide_set-requires-clause-table
slide_set-requires-clause-table c =
    let old = c.args.self.now in
    latest_set old.codes.now old.places old.place old.wide c.requires (omega arith) old.table

pub invariant_of-self : goal.invariant_of-self
invariant_of-self c =
    let old = c.args.self.now in
    let table : Latest old.codes.now (old.place + 1) (set old.places (get_or old.codes.now old.place 0) (old.place + 1)) =
    latest_set old.codes.now old.places old.place old.wide c.requires (omega arith) old.table in
    record {
      few = old.few;
      some = old.some;
      within = omega arith;
      wide = simp length-set old.wide;
      windowed = c.slide_set.ensures;
      table = table;
    }
