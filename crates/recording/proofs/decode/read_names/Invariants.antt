-- After i names, what is left gives what is wanted.
use Rattle.std.proofs.Common.{◌≡◌, length}
use Rattle.recording.proofs.Progress.{Progress}
use Rattle.recording.proofs.decode.read_names.Given as goal

abbrev pub invariant-loop-i : goal.invariant-loop-i
invariant-loop-i g l = record {
  so : Progress g.N.Name.bits g.N.Name.named g.N.Name.width l.bytes (length l.initial.codes) l.initial.list.memory.now l.initial.codes l.i l.reader.at l.list.memory.now l.list.count l.codes;
  bytes : l.reader.bytes.now ≡ l.bytes;
  lender : l.list.memory.ghost_name ≡ l.initial.list.memory.ghost_name;
}
