use Rattle.std.proofs.Common.{◌≡◌, [], ◌++◌, take, drop}
use Rattle.ranking.specs.Stack.{sift}
use Rattle.ranking.proofs.stack.moves.sift.Given as goal

abbrev pub invariant-loop-entry : goal.invariant-loop-entry
invariant-loop-entry g l =
    let o = g.R.Ranking.order l.ranking [] in
    take l.entry-index l.pages ++ sift o l.code l.carried (drop l.entry-index l.pages) ≡ sift o l.code l.initial.carried l.initial.pages
