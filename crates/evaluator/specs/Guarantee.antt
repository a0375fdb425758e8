-- What no row of calls on a trial can make false of its string. Assumes nothing.
use Rattle.std.specs.Prelude.{◌≡◌, ℕ, ◌<◌, ◌≤◌, List, [], length, Ok, Err, Result}
use Rattle.paging.specs.declared.policy.Policy.TheVariants.{Lru, Min, Dpmin}
use Rattle.paging.specs.declared.refusal.Refusal.{Refusal}
use Rattle.paging.specs.declared.refusal.Refusal.TheVariants.{NoFrameCountWithin}
use Rattle.paging.specs.Pages.{nothing, size}
use Rattle.paging.specs.Schedules.{Holding, Schedule, Prepages, pulls, faults}
use Rattle.paging.specs.Models.{PagerModel, Keeps, instants_on, pulls_on}
use Rattle.paging.specs.Rankings.{RankingModel, Orders, own_faults}
use Rattle.paging.specs.Policies.{schedule}
use Rattle.ranking.specs.Edges.{at_count, faults_at}
use Rattle.ranking.specs.Stack.{pass_row}
use Rattle.evaluator.specs.Answers.{figures_answer, run_answer, edge_answer, ranking_edge, instants_at}
use Rattle.evaluator.specs.Histories.{Call, AllPossible, after_calls}

-- the call was accepted, and P is true of what it answered
abbrev pub Told : {X : Type 0} → Result X Refusal → (X → Type 0) → Type 0
Told (Ok x) P = P x
Told (Err e) P = ⊥

-- the letters of LRU, MIN and DPMIN
abbrev pub letter_l : ℕ
letter_l = 76

abbrev pub letter_m : ℕ
letter_m = 77

abbrev pub letter_d : ℕ
letter_d = 68

-- every schedule has at least the pulls that figures answers for MIN, and MIN's own schedule is one with exactly those
pub record FewestPulls (f : ℕ) (s : List ℕ) (told : ℕ × ℕ) : Type 0 where
  pub fewest : (H : Holding) → Schedule f nothing s H → told.1 ≤ pulls H (length s)
  pub own : Schedule f nothing s (schedule Min f s)
  pub exactly : pulls (schedule Min f s) (length s) ≡ told.1

-- every schedule that pulls only at its fault instants has at least those that figures answers for DPMIN, and DPMIN's own schedule
-- is one of these, with exactly those
pub record FewestInstants (f : ℕ) (s : List ℕ) (told : ℕ × ℕ) : Type 0 where
  pub fewest : (H : Holding) → Schedule f nothing s H → Prepages s H → told.0 ≤ faults s H (length s)
  pub own : Schedule f nothing s (schedule Dpmin f s)
  pub own_prepages : Prepages s (schedule Dpmin f s)
  pub exactly : faults s (schedule Dpmin f s) (length s) ≡ told.0

-- an accepted run of the pager b answers the instants and pulls that b makes, no fewer instants than DPMIN's and no fewer pulls than MIN's
pub record NoBetter (f : ℕ) (s : List ℕ) (b : PagerModel) (told : ℕ × ℕ) : Type 0 where
  pub instants : told.0 ≡ instants_on b s
  pub pulling : told.1 ≡ pulls_on b s
  pub above_dpmin : Told (figures_answer letter_d f s) (λ d. d.0 ≤ told.0)
  pub above_min : Told (figures_answer letter_m f s) (λ m. m.1 ≤ told.1)

-- at the frame count f: no schedule pulls less than MIN, none that prepages on demand faults less than DPMIN, and no pager does
pub record AtFrames (f : ℕ) (s : List ℕ) : Type 0 where
  pub min : Told (figures_answer letter_m f s) (FewestPulls f s)
  pub dpmin : Told (figures_answer letter_d f s) (FewestInstants f s)
  pub pagers : (b : PagerModel) → Keeps f b → size (b []) ≡ 0 → Told (run_answer b s) (NoBetter f s b)

-- e is the smallest frame count at which g is within the ceiling, and at every larger one it is too
pub record EdgeAt (g : ℕ → ℕ) (ceiling e : ℕ) : Type 0 where
  pub some : 1 ≤ e
  pub most : e ≤ 64
  pub within : g e ≤ ceiling
  pub smallest : (f : ℕ) → 1 ≤ f → f < e → ceiling < g f
  pub larger : (f : ℕ) → e ≤ f → f ≤ 64 → g f ≤ ceiling

-- what an edge call may answer: the edge; or the refusal, and then there is none
abbrev pub EdgeTold : (ℕ → ℕ) → ℕ → Result ℕ Refusal → Type 0
EdgeTold g ceiling (Ok e) = EdgeAt g ceiling e
EdgeTold g ceiling (Err x) = (x ≡ NoFrameCountWithin) × ((f : ℕ) → 1 ≤ f → f ≤ 64 → ceiling < g f)

-- a pass gives exactly the faults of the ranking's own run at each frame count, and edge finds its edge for every ceiling
pub record Ranked (r : RankingModel) (s : List ℕ) : Type 0 where
  pub pass : (f : ℕ) → 1 ≤ f → f ≤ 64 → at_count (pass_row r s) f ≡ own_faults r f s
  pub edge : (ceiling : ℕ) → EdgeTold (faults_at r s) ceiling (ranking_edge r s ceiling)

-- by letter, edge finds the edge of LRU, of MIN and of DPMIN, over the fault instants that figures tell
pub record EdgesByLetter (s : List ℕ) (ceiling : ℕ) : Type 0 where
  pub lru : EdgeTold (instants_at Lru s) ceiling (edge_answer letter_l s ceiling)
  pub min : EdgeTold (instants_at Min s) ceiling (edge_answer letter_m s ceiling)
  pub dpmin : EdgeTold (instants_at Dpmin s) ceiling (edge_answer letter_d s ceiling)

-- all that is said of one string
pub record Stands (s : List ℕ) : Type 0 where
  pub at_frames : (f : ℕ) → 1 ≤ f → f ≤ 64 → AtFrames f s
  pub rankings : (r : RankingModel) → Orders r → Ranked r s
  pub edges : (ceiling : ℕ) → EdgesByLetter s ceiling

-- whatever calls were made on a trial begun afresh, refused ones included
abbrev pub Guarantee : Type 0
Guarantee = (calls : List Call) → AllPossible calls → Stands (after_calls [] calls)
