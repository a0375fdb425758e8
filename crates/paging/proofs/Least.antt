-- MIN and DPMIN are least, for the figures of the policies. Assumes nothing.
use Rattle.std.proofs.Common.{ℕ, ◌≤◌, List, length, refl, arith}
use Rattle.paging.specs.declared.policy.Policy.TheVariants.{Min, Dpmin}
use Rattle.paging.specs.Pages.{Pages, nothing}
use Rattle.paging.specs.Schedules.{Coded, Holding, ScheduleTo, Schedule, Prepages, pulls, faults}
use Rattle.paging.specs.Models.{PagerModel, Keeps, held_on}
use Rattle.paging.specs.Rankings.{next_told, untold}
use Rattle.paging.specs.Policies.{model, schedule, instants, pulls_of}
use Rattle.paging.specs.Theorems.{StartsEmpty, PoliciesLeast, DpminMoreFrames}
use Rattle.paging.proofs.Sets.{size_nothing}
use Rattle.paging.proofs.Models.{pager_schedules}
use Rattle.paging.proofs.Foremost.{dpmin_keeps}
use Rattle.paging.proofs.OwnRuns.{own_keeps}
use Rattle.paging.proofs.MinRun.{min_releases_furthest}
use Rattle.paging.proofs.FewestPulls.{min_pulls_least}
use Rattle.paging.proofs.FewestFaults.{dpmin_faults_least}

-- a pager that holds nothing yet makes a schedule from nothing
pub empty_schedules : (f : ℕ) (b : PagerModel) (s : List ℕ) → Coded s → Keeps f b → StartsEmpty b → Schedule f nothing s (held_on b s)
empty_schedules f b s coded k none =
    let h = (pager_schedules f b s coded k).0 in
    record { starts = none; fits = h.fits; serves = h.serves }

-- a schedule in f frames is one in g
pub schedule_frames : (p f g : ℕ) (B : Pages) (s : List ℕ) (H : Holding) → f ≤ g → ScheduleTo p f B s H → ScheduleTo p g B s H
schedule_frames p f g B s H l h =
    record { starts = h.starts; fits = λ t lt. omega (arith, h.fits t lt); serves = h.serves }

pub min_keeps : (f : ℕ) → 1 ≤ f → f ≤ 64 → Keeps f (model Min f)
min_keeps f some most = own_keeps (next_told untold) f nothing some most (omega (arith, size_nothing))

pub dpmin_keeps_empty : (f : ℕ) → 1 ≤ f → f ≤ 64 → Keeps f (model Dpmin f)
dpmin_keeps_empty f some most = dpmin_keeps f nothing some most (omega (arith, size_nothing))

module _ (f : ℕ) (s : List ℕ) (some : 1 ≤ f) (most : f ≤ 64) (coded : Coded s) where
  min_least : length s ≤ 4096 → (H : Holding) → Schedule f nothing s H → pulls_of Min f s ≤ pulls H (length s)
  min_least short H sched =
      min_pulls_least f nothing s (schedule Min f s) H (length s) coded (min_releases_furthest f s coded short some) (λ c _. refl)
      (omega arith) sched

  dpmin_least : (H : Holding) → Schedule f nothing s H → Prepages s H → instants Dpmin f s ≤ faults s H (length s)
  dpmin_least H sched pre = dpmin_faults_least f nothing s H (length s) coded (omega arith) sched pre

pub policies_least : PoliciesLeast
policies_least f s some most coded short =
    record {
      own_min = (pager_schedules f (model Min f) s coded (min_keeps f some most)).0;
      fewest_pulls = min_least f s some most coded short;
      own_dpmin = pager_schedules f (model Dpmin f) s coded (dpmin_keeps_empty f some most);
      fewest_instants = dpmin_least f s some most coded;
      pager_instants = λ b k none.
          dpmin_least f s some most coded (held_on b s) (empty_schedules f b s coded k none) (pager_schedules f b s coded k).1;
      pager_pulls = λ b k none. min_least f s some most coded short (held_on b s) (empty_schedules f b s coded k none);
    }

pub dpmin_more_frames : DpminMoreFrames
dpmin_more_frames f g s some most l coded =
    let own = pager_schedules f (model Dpmin f) s coded (dpmin_keeps_empty f some most) in
    dpmin_faults_least g nothing s (schedule Dpmin f s) (length s) coded (omega arith)
    (schedule_frames (length s) f g nothing s (schedule Dpmin f s) l own.0) own.1
