use Rattle.std.proofs.Common.{◌≡◌, ℕ, ◌<◌, ◌≤◌, true, length, get_or, drop}
use Rattle.paging.specs.Pages.{nothing}
use Rattle.paging.specs.Rankings.{told_all, tellings}
use Rattle.paging.specs.Queues.{once, coded}
use Rattle.ranking.proofs.Passes.{Tracked}
use Rattle.ranking.proofs.pass.pass.Given as goal

abbrev pub invariant-loop-t : goal.invariant-loop-t
invariant-loop-t g l =
    let r = g.R.Ranking.order l.ranking in
    let r₀ = g.R.Ranking.order l.initial.ranking in
    let st = l.stack in
    (length l.row ≡ 64) ×
    (once st ≡ true) ×
    (coded st ≡ true) ×
    ((f : ℕ) → f < 64 → get_or l.row f 0 ≤ l.t) ×
    ((f : ℕ) → f < 64 → Tracked r₀ r nothing l.codes st l.t (get_or l.row f 0) f) ×
    (told_all r (tellings l.t (drop l.t l.codes)) ≡ told_all r₀ (tellings 0 l.codes))
