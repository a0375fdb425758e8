-- The first bytes are written, and the rest is as it was.
use Rattle.std.proofs.Common.{◌≡◌, ◌++◌, map, drop}
use Rattle.recording.specs.Bits.{numbers_at}
use Rattle.recording.specs.Writing.{recording_bit, named_by}
use Rattle.recording.proofs.encode.NamedString.write.Given as goal

abbrev pub invariant-loop-i : goal.invariant-loop-i
invariant-loop-i g l =
    l.out ≡ numbers_at (recording_bit g.N.Name.kind g.N.Name.width (named_by (map g.N.Name.bits l.self.names.now) l.self.codes.now)) 8 0 l.i ++ drop l.i l.initial.out
