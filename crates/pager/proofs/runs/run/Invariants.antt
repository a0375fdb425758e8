-- A run, as far as the place at hand. Assumes nothing.
use Rattle.std.proofs.Common.{◌≡◌, ◌*◌, ◌≤◌}
use Rattle.paging.specs.Models.{after, held_on}
use Rattle.paging.specs.Schedules.{faults, pulls}
use Rattle.pager.proofs.runs.run.Given as goal

abbrev pub invariant-loop-place : goal.invariant-loop-place
invariant-loop-place g l =
    let b = g.P.Pager.holding l.initial.pager in
    (g.P.Pager.holding l.pager ≡ after b l.codes l.place) ×
    (l.faults ≡ faults l.codes (held_on b l.codes) l.place) ×
    (l.pulls ≡ pulls (held_on b l.codes) l.place) ×
    (l.faults ≤ l.place) ×
    (l.pulls ≤ 256 * l.place) ×
    (g.P.Pager.room l.pager ≡ g.P.Pager.room l.initial.pager)
