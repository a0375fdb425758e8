-- Edges: the smallest frame count within a ceiling, for anything that depends on the frame count. Assumes nothing.
use Rattle.std.specs.Prelude.{◌≡◌, ℕ, zero, suc, ◌<◌, ◌≤◌, cond, List, Some, None, Option, nat_le, slice_index}
use Rattle.paging.specs.Rankings.{RankingModel, own_faults}

-- of the n frame counts from f on, the first at which g is at most the ceiling
unfoldable pub edge_from : (ℕ → ℕ) → ℕ → ℕ → ℕ → Option ℕ
edge_from g ceiling f zero = None
edge_from g ceiling f (suc n) = cond (nat_le (g f) ceiling) (Some f) (edge_from g ceiling (suc f) n)

-- the smallest frame count from 1 to 64 at which g is at most the ceiling
abbrev pub edge : (ℕ → ℕ) → ℕ → Option ℕ
edge g ceiling = edge_from g ceiling 1 64

-- a row of numbers by frame count: the first is that of one frame
abbrev pub at_count : List ℕ → ℕ → ℕ
at_count row zero = 0
at_count row (suc k) = slice_index row k

-- the faults of a ranking's own run on a string, by frame count
abbrev pub faults_at : RankingModel → List ℕ → ℕ → ℕ
faults_at r s f = own_faults r f s

-- one frame more never gives a larger number
abbrev pub Falls : (ℕ → ℕ) → Type 0
Falls g = (f : ℕ) → 1 ≤ f → g (suc f) ≤ g f

-- e is a frame count within the ceiling, and no smaller one is
pub record LeastWithin (g : ℕ → ℕ) (ceiling e : ℕ) : Type 0 where
  pub some : 1 ≤ e
  pub most : e ≤ 64
  pub within : g e ≤ ceiling
  pub least : (f : ℕ) → 1 ≤ f → f < e → ceiling < g f

-- no frame count is within the ceiling
abbrev pub NoneWithin : (ℕ → ℕ) → ℕ → Type 0
NoneWithin g ceiling = (f : ℕ) → 1 ≤ f → f ≤ 64 → ceiling < g f

-- what the edge is: it is answered exactly if it is the least frame count within, and refused exactly if none is;
-- and where g falls, every larger frame count is within too
pub record EdgeOf (g : ℕ → ℕ) (ceiling : ℕ) : Type 0 where
  pub found : (e : ℕ) → edge g ceiling ≡ Some e → LeastWithin g ceiling e
  pub answered : (e : ℕ) → LeastWithin g ceiling e → edge g ceiling ≡ Some e
  pub none : edge g ceiling ≡ None → NoneWithin g ceiling
  pub refused : NoneWithin g ceiling → edge g ceiling ≡ None
  pub beyond : Falls g → (e f : ℕ) → edge g ceiling ≡ Some e → e ≤ f → g f ≤ ceiling
