-- The page behind all others, as far as the codes were looked at. Assumes nothing.
use Rattle.std.proofs.Common.{◌≡◌, []}
use Rattle.paging.specs.Rankings.{hindmost}
use Rattle.paging.specs.Sets.{pages}
use Rattle.pagers.proofs.ranked.admit.hindmost.Given as goal

abbrev pub invariant-loop-code : goal.invariant-loop-code
invariant-loop-code g l = l.last ≡ hindmost (g.R.Ranking.order l.ranking []) l.code (pages l.held)
