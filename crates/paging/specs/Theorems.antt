-- What is proved of all schedules, pagers, rankings and policies. Assumes nothing.
use Rattle.std.specs.Prelude.{◌≡◌, ℕ, suc, ◌+◌, ◌<◌, ◌≤◌, min, true, false, List, [], length, take, drop, slice_index}
use Rattle.paging.specs.Pages.{codes, Pages, nothing, size}
use Rattle.paging.specs.Schedules.{next, Coded, Holding, ScheduleTo, Schedule, PrepagesTo, Prepages, pulls, releases, faults}
use Rattle.paging.specs.Models.{PagerModel, Keeps, held_on, instants_on, pulls_on}
use Rattle.paging.specs.Rankings.{RankingModel, Orders, told_all, tellings, own_from, own, own_faults}
use Rattle.paging.specs.declared.policy.Policy.TheVariants.{Lru, Min, Dpmin, Fifo}
use Rattle.paging.specs.Policies.{pool, before, dpmin, fifo, schedule, instants, pulls_of, Demand, Furthest, Oldest, LongestHeld, Behind}

-- a pager that keeps its laws makes a schedule, and pulls only at its fault instants
abbrev pub PagersSchedule : Type 0
PagersSchedule =
    (f : ℕ) (b : PagerModel) (s : List ℕ) → Coded s → Keeps f b →
    Schedule f (b []) s (held_on b s) × Prepages s (held_on b s)

-- the pulls and what is held at first are the releases and what is held at last
abbrev pub PullsBalance : Type 0
PullsBalance = (H : Holding) (p : ℕ) → pulls H p + size (H 0) ≡ releases H p + size (H p)

-- up to every place, what follows MIN's rule has pulled no more pages than any schedule from the same set in as many frames
abbrev pub MinPullsLeast : Type 0
MinPullsLeast =
    (f : ℕ) (B : Pages) (s : List ℕ) (K H : Holding) (p : ℕ) → Coded s →
    Demand (Furthest s K) f s K → ((c : ℕ) → c < codes → K 0 c ≡ B c) → p ≤ length s →
    ScheduleTo p f B s H → pulls K p ≤ pulls H p

-- up to every place, DPMIN has faulted no more often than any schedule, from the same set in as many frames, that pulls only at its faults
abbrev pub DpminFaultsLeast : Type 0
DpminFaultsLeast =
    (f : ℕ) (B : Pages) (s : List ℕ) (H : Holding) (p : ℕ) → Coded s → p ≤ length s →
    ScheduleTo p f B s H → PrepagesTo p s H → faults s (held_on (dpmin f B) s) p ≤ faults s H p

-- the reference number t is the fault instant number k of the schedule; both are counted from 0
pub record Instant (s : List ℕ) (H : Holding) (k t : ℕ) : Type 0 where
  pub below : t < length s
  pub fault : H t (slice_index s t) ≡ false
  pub earlier : faults s H t ≡ k

-- of two fault instants of one number, DPMIN's is never the earlier
abbrev pub DpminFaultsLatest : Type 0
DpminFaultsLatest =
    (f : ℕ) (B : Pages) (s : List ℕ) (H : Holding) (k t u : ℕ) → Coded s → Schedule f B s H → Prepages s H →
    Instant s (held_on (dpmin f B) s) k t → Instant s H k u → u ≤ t

-- DPMIN keeps the laws of a pager
abbrev pub DpminKeeps : Type 0
DpminKeeps = (f : ℕ) (B : Pages) → 1 ≤ f → f ≤ 64 → size B ≤ f → Keeps f (dpmin f B)

-- the set N is the first f pages of DPMIN's order of the pool, or all of them if there are fewer
pub record FirstPages (f : ℕ) (ys : List ℕ) (M N : Pages) : Type 0 where
  pub within : (c : ℕ) → c < codes → N c ≡ true → pool ys M c ≡ true
  pub many : size N ≡ min f (size (pool ys M))
  pub first : (c d : ℕ) → c < codes → d < codes → N c ≡ true → pool ys M d ≡ true → N d ≡ false → before (next ys) c d ≡ true

-- DPMIN moves nothing where the referenced page is held, and at a fault holds the first pages of the pool
abbrev pub DpminHoldsFirstPages : Type 0
DpminHoldsFirstPages =
    (f : ℕ) (B : Pages) (s : List ℕ) (t : ℕ) → t < length s →
    (held_on (dpmin f B) s t (slice_index s t) ≡ true → held_on (dpmin f B) s (suc t) ≡ held_on (dpmin f B) s t) ×
    (held_on (dpmin f B) s t (slice_index s t) ≡ false → FirstPages f (drop t s) (held_on (dpmin f B) s t) (held_on (dpmin f B) s (suc t)))

-- and so does the own run of every ranking
abbrev pub OwnKeeps : Type 0
OwnKeeps = (r : RankingModel) (f : ℕ) (B : Pages) → 1 ≤ f → f ≤ 64 → size B ≤ f → Keeps f (own_from r f B)

-- and so does FIFO, from any queue that fits its frames
abbrev pub FifoKeeps : Type 0
FifoKeeps = (f : ℕ) → 1 ≤ f → f ≤ 64 → (q : List ℕ) → length q ≤ f → Keeps f (fifo f q)

-- the own run of every ranking pulls at faults only, and releases the held page that is behind all others once the ranking is told
abbrev pub OwnReleasesHindmost : Type 0
OwnReleasesHindmost =
    (r : RankingModel) (f : ℕ) (s : List ℕ) → Orders r → 1 ≤ f →
    Demand (Behind (λ t. told_all r (take (suc t) (tellings 0 s)) []) (held_on (own r f) s)) f s (held_on (own r f) s)

-- MIN is such a run, and the page that it releases is the one referenced furthest
abbrev pub MinReleasesFurthest : Type 0
MinReleasesFurthest =
    (f : ℕ) (s : List ℕ) → Coded s → length s ≤ 4096 → 1 ≤ f →
    Demand (Furthest s (schedule Min f s)) f s (schedule Min f s)

-- LRU is such a run, and the page that it releases is the one whose latest reference is oldest
abbrev pub LruReleasesOldest : Type 0
LruReleasesOldest =
    (f : ℕ) (s : List ℕ) → Coded s → length s ≤ 4096 → 1 ≤ f →
    Demand (Oldest s (schedule Lru f s)) f s (schedule Lru f s)

-- FIFO pulls at faults only, and the page that it releases is the one whose latest pull is longest ago
abbrev pub FifoReleasesLongestHeld : Type 0
FifoReleasesLongestHeld =
    (f : ℕ) (s : List ℕ) → Coded s → 1 ≤ f → Demand (LongestHeld s (schedule Fifo f s)) f s (schedule Fifo f s)

-- the own run of every ranking, and so LRU and MIN, pulls as many pages as it has fault instants
abbrev pub OwnPullsAtFaults : Type 0
OwnPullsAtFaults = (r : RankingModel) (f : ℕ) (s : List ℕ) → Coded s → 1 ≤ f → pulls_on (own r f) s ≡ own_faults r f s

-- the pager holds no page yet
abbrev pub StartsEmpty : PagerModel → Type 0
StartsEmpty b = (c : ℕ) → c < codes → b [] c ≡ false

-- in f frames and from nothing held, no schedule of the string s pulls less than MIN, and none that pulls only at its fault instants
-- has fewer of them than DPMIN; so no pager does better, whatever its rule
pub record Least (f : ℕ) (s : List ℕ) : Type 0 where
  -- MIN's own schedule is a schedule
  pub own_min : Schedule f nothing s (schedule Min f s)
  -- every schedule has at least MIN's pulls
  pub fewest_pulls : (H : Holding) → Schedule f nothing s H → pulls_of Min f s ≤ pulls H (length s)
  -- DPMIN's own schedule is a schedule, and pulls only at its fault instants
  pub own_dpmin : Schedule f nothing s (schedule Dpmin f s) × Prepages s (schedule Dpmin f s)
  -- every schedule that pulls only at its fault instants has at least DPMIN's
  pub fewest_instants : (H : Holding) → Schedule f nothing s H → Prepages s H → instants Dpmin f s ≤ faults s H (length s)
  -- every pager that keeps its laws has at least DPMIN's fault instants
  pub pager_instants : (b : PagerModel) → Keeps f b → StartsEmpty b → instants Dpmin f s ≤ instants_on b s
  -- and at least MIN's pulls
  pub pager_pulls : (b : PagerModel) → Keeps f b → StartsEmpty b → pulls_of Min f s ≤ pulls_on b s

-- MIN and DPMIN are least, on every string of at most 4,096 references and at every frame count from 1 to 64
abbrev pub PoliciesLeast : Type 0
PoliciesLeast = (f : ℕ) (s : List ℕ) → 1 ≤ f → f ≤ 64 → Coded s → length s ≤ 4096 → Least f s

-- with more frames DPMIN never faults more often
abbrev pub DpminMoreFrames : Type 0
DpminMoreFrames = (f g : ℕ) (s : List ℕ) → 1 ≤ f → f ≤ 64 → f ≤ g → Coded s → instants Dpmin g s ≤ instants Dpmin f s
