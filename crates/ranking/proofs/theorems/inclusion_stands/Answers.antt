use Rattle.ranking.proofs.Inclusions.{inclusion, faults_fall}
use Rattle.ranking.proofs.theorems.inclusion_stands.Goals as goal

pub returns : goal.returns
returns c = record { held = inclusion; faults = faults_fall }
