use Rattle.std.proofs.Common.{◌≡◌, length}
use Rattle.ranking.specs.Places.{NextPlaces}
use Rattle.ranking.proofs.Places.{Nearest}
use Rattle.ranking.proofs.pass.next_places.Given as goal

abbrev pub invariant-loop-t : goal.invariant-loop-t
invariant-loop-t l =
    (length l.nearest ≡ 256) × (length l.after ≡ 4096) × Nearest l.codes l.t l.nearest × NextPlaces l.codes l.t l.after
