-- The four policies, and the rules by which they release pages. Assumes nothing.
use Rattle.std.specs.Prelude.{◌≡◌, ℕ, suc, ◌<◌, ◌≤◌, Bool, true, false, cond, ◌&&◌, ◌||◌, List, [], ◌∷◌, ◌++◌, length, drop, ◌==◌, ◌≢◌, nat_le, nat_lt, slice_index}
use Rattle.paging.specs.declared.policy.Policy.{Policy}
use Rattle.paging.specs.declared.policy.Policy.TheVariants.{Lru, Min, Dpmin, Fifo}
use Rattle.paging.specs.Pages.{bit, total, codes, Pages, nothing, size, with_page, without, has}
use Rattle.paging.specs.Schedules.{next, latest, Holding, pull_place}
use Rattle.paging.specs.Models.{PagerModel, stepping, held_on, instants_on, pulls_on}
use Rattle.paging.specs.Rankings.{own, last_told, next_told, untold}

-- DPMIN: the pages held, and those still to be referenced
abbrev pub pool : List ℕ → Pages → Pages
pool ys M c = M c || nat_lt (next ys c) (length ys)

-- d comes before c: by the next reference, and the lower code first
abbrev pub before : (ℕ → ℕ) → ℕ → ℕ → Bool
before k d c = nat_lt (k d) (k c) || (k d == k c && nat_lt d c)

-- how many pages of the set P come before c
abbrev pub rank : (ℕ → ℕ) → Pages → ℕ → ℕ
rank k P c = total codes (λ d. bit (P d && before k d c))

-- the first f pages of the pool
abbrev pub foremost : ℕ → List ℕ → Pages → Pages
foremost f ys M c = pool ys M c && nat_lt (rank (next ys) (pool ys M) c) f

-- DPMIN at the reference that begins the row: on a fault it holds the first f pages of the pool
abbrev pub dpmin_step : ℕ → List ℕ → Pages → Pages
dpmin_step f [] M = M
dpmin_step f (x ∷ xs) M = cond (M x) M (foremost f (x ∷ xs) M)

abbrev pub itself : Pages → Pages
itself M = M

abbrev pub dpmin : ℕ → Pages → PagerModel
dpmin f B = stepping (dpmin_step f) itself B

-- FIFO keeps the pages held in the order in which they were pulled; on a fault with all frames full the first goes
abbrev pub fifo_step : ℕ → List ℕ → List ℕ → List ℕ
fifo_step f [] q = q
fifo_step f (x ∷ xs) q = cond (has q x) q (cond (nat_le f (length q)) (drop 1 q) q ++ x ∷ [])

abbrev pub fifo : ℕ → List ℕ → PagerModel
fifo f q = stepping (fifo_step f) has q

-- each policy in f frames, from nothing held
abbrev pub model : Policy → ℕ → PagerModel
model Lru f = own (last_told untold) f
model Min f = own (next_told untold) f
model Dpmin f = dpmin f nothing
model Fifo f = fifo f []

-- the policy's schedule of a string, its fault instants and its pulls
abbrev pub schedule : Policy → ℕ → List ℕ → Holding
schedule p f s = held_on (model p f) s

abbrev pub instants : Policy → ℕ → List ℕ → ℕ
instants p f s = instants_on (model p f) s

abbrev pub pulls_of : Policy → ℕ → List ℕ → ℕ
pulls_of p f s = pulls_on (model p f) s

-- at a fault with all frames full, a page z of the set M goes that Goes tells of, and x comes
pub record Replaces (Goes : ℕ → Type 0) (x : ℕ) (M N : Pages) : Type 0 where
  pub out : ℕ
  pub low : out < codes
  pub held : M out ≡ true
  pub goes : Goes out
  pub then : N ≡ with_page x (without out M)

-- a schedule that pulls one page at a time, at faults only, and releases one only where all frames are full;
-- Goes t z tells which page z may go at the place after t
pub record Demand (Goes : ℕ → ℕ → Type 0) (f : ℕ) (s : List ℕ) (H : Holding) : Type 0 where
  pub hit : (t : ℕ) → t < length s → H t (slice_index s t) ≡ true → H (suc t) ≡ H t
  pub room : (t : ℕ) → t < length s → H t (slice_index s t) ≡ false → size (H t) < f → H (suc t) ≡ with_page (slice_index s t) (H t)
  pub full : (t : ℕ) → t < length s → H t (slice_index s t) ≡ false → f ≤ size (H t) → Replaces (Goes t) (slice_index s t) (H t) (H (suc t))

-- MIN's rule: no page held is referenced later than z, and of those as late z is the largest
abbrev pub Furthest : List ℕ → Holding → ℕ → ℕ → Type 0
Furthest s H t z =
    (c : ℕ) → c < codes → H t c ≡ true →
    (next (drop t s) c ≤ next (drop t s) z) × (next (drop t s) c ≡ next (drop t s) z → c ≤ z)

-- LRU's rule: the latest reference to each other page held is later than that to z
abbrev pub Oldest : List ℕ → Holding → ℕ → ℕ → Type 0
Oldest s H t z = (c : ℕ) → c < codes → H t c ≡ true → (c ≢ z) → latest s t z < latest s t c

-- FIFO's rule: the latest pull of each other page held is later than that of z
abbrev pub LongestHeld : List ℕ → Holding → ℕ → ℕ → Type 0
LongestHeld s H t z = (c : ℕ) → c < codes → H t c ≡ true → (c ≢ z) → pull_place H t z < pull_place H t c

-- a ranking's rule: each other page held is ahead of z once the ranking is told of the reference at hand
abbrev pub Behind : (ℕ → ℕ → ℕ → Bool) → Holding → ℕ → ℕ → Type 0
Behind o H t z = (c : ℕ) → c < codes → H t c ≡ true → (c ≢ z) → o t c z ≡ true
