use Rattle.paging.proofs.Balance.{pulls_balance}
use Rattle.paging.proofs.FewestPulls.{min_pulls_least}
use Rattle.paging.proofs.FewestFaults.{dpmin_faults_least, dpmin_faults_latest}
use Rattle.paging.proofs.theorems.schedules_stand.Goals as goal

pub returns : goal.returns
returns c = record { balance = pulls_balance; pulls = min_pulls_least; faults = dpmin_faults_least; latest = dpmin_faults_latest }
