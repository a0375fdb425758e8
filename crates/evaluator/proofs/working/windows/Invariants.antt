use Rattle.std.proofs.Common.{◌≡◌, ◌*◌, ◌≤◌}
use Rattle.paging.specs.Schedules.{faults}
use Rattle.evaluator.specs.WorkingSets.{working_set, sizes_to}
use Rattle.evaluator.proofs.working.windows.Given as goal

abbrev pub invariant-loop-code : goal.invariant-loop-code
invariant-loop-code l =
    (l.window.codes.now ≡ l.codes) ×
    (l.window.width ≡ l.width) ×
    (l.window.place ≡ l.code-index) ×
    (l.faults ≡ faults l.codes (working_set l.width l.codes) l.code-index) ×
    (l.faults ≤ l.code-index) ×
    (l.sum ≡ sizes_to l.width l.codes l.code-index) ×
    (l.sum ≤ 256 * l.code-index)
