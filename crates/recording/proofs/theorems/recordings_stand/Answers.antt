-- The parts of the guarantee.
use Rattle.recording.proofs.Recorded.{laid}
use Rattle.recording.proofs.Codes.{codes_stand}
use Rattle.recording.proofs.Counted.{counts_stand}
use Rattle.recording.proofs.Fitting.{fitting}
use Rattle.recording.proofs.Stored.{stored_as_loaded, loaded_as_stored}
use Rattle.recording.proofs.theorems.recordings_stand.Goals as goal

pub returns : goal.returns
returns c = record { laid = laid; coded = codes_stand; counted = counts_stand; fitting = fitting; stored = stored_as_loaded; loaded = loaded_as_stored }
