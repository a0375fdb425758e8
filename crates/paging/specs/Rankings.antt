-- Rankings by what they do: the order of the codes after any tellings; and the run that a ranking makes of its own. Assumes nothing.
use Rattle.std.specs.Prelude.{◌≡◌, ℕ, zero, suc, ◌+◌, ◌<◌, min, Bool, true, false, cond, not, ◌&&◌, ◌||◌, List, [], ◌∷◌, ◌++◌, length, ◌==◌, ◌≢◌, nat_le, nat_lt}
use Rattle.paging.specs.Pages.{codes, Pages, nothing, size, with_page, without}
use Rattle.paging.specs.Schedules.{next}
use Rattle.paging.specs.Models.{PagerModel, stepping, instants_on}

-- a reference as a ranking is told of it: the code, its place, and the place of its next reference or 0 for none
pub record Telling : Type 0 where
  pub code : ℕ
  pub place : ℕ
  pub next : ℕ

abbrev pub telling : ℕ → ℕ → ℕ → Telling
telling c p n = record { code = c; place = p; next = n }

-- a ranking: whether a is ahead of b after those tellings, the first of them first
abbrev pub RankingModel : Type 0
RankingModel = List Telling → ℕ → ℕ → Bool

-- the ranking from after one telling on, and from after several
abbrev pub told : RankingModel → Telling → RankingModel
told r t = λ ts. r (t ∷ ts)

abbrev pub told_all : RankingModel → List Telling → RankingModel
told_all r us = λ ts. r (us ++ ts)

-- the laws of an order of the codes
pub record Order (o : ℕ → ℕ → Bool) : Type 0 where
  pub never : (a : ℕ) → a < codes → o a a ≡ false
  pub one : (a b : ℕ) → a < codes → b < codes → (a ≢ b) → o b a ≡ not (o a b)
  pub chain : (a b c : ℕ) → a < codes → b < codes → c < codes → o a b ≡ true → o b c ≡ true → o a c ≡ true

-- the laws of a ranking: an order at the start and after every telling
abbrev pub Orders : RankingModel → Type 0
Orders r = (ts : List Telling) → Order (r ts)

-- places are told as numbers up to this, and stop there
abbrev pub capped : ℕ → ℕ
capped n = min 65535 n

-- the place of the next reference to x, whose reference at hand is at the place p and is followed by xs
abbrev pub next_place : ℕ → ℕ → List ℕ → ℕ
next_place p x xs = cond (nat_lt (next xs x) (length xs)) (capped (p + suc (next xs x))) 0

-- of the pages below n in the set M, the one that is behind all others (0 where there is none)
unfoldable pub hindmost : (ℕ → ℕ → Bool) → ℕ → Pages → ℕ
hindmost o zero M = 0
hindmost o (suc n) M = cond (M n && (not (M (hindmost o n M)) || o (hindmost o n M) n)) n (hindmost o n M)

-- what f frames hold after a reference to x: on a fault with all frames full z goes, and then x comes
abbrev pub admit : ℕ → ℕ → ℕ → Pages → Pages
admit f z x M = cond (M x) M (with_page x (cond (nat_le f (size M)) (without z M) M))

-- a run of a ranking: the ranking as it is now, how many references it was told of, and the pages held
pub record OwnRun : Type 0 where
  pub ranking : RankingModel
  pub count : ℕ
  pub held : Pages

-- the ranking after it is told of a reference to x, the one at the place p, with xs to follow
abbrev pub told_of : RankingModel → ℕ → ℕ → List ℕ → RankingModel
told_of r p x xs = told r (telling x p (next_place p x xs))

-- a reference in a run: the ranking is told first, and then the held page behind all others goes if one has to
abbrev pub own_step : ℕ → List ℕ → OwnRun → OwnRun
own_step f [] q = q
own_step f (x ∷ xs) q =
    record {
      ranking = told_of q.ranking (capped (suc q.count)) x xs;
      count = capped (suc q.count);
      held = admit f (hindmost (told_of q.ranking (capped (suc q.count)) x xs []) codes q.held) x q.held;
    }

abbrev pub own_held : OwnRun → Pages
own_held q = q.held

-- a run that starts with the pages of B held
abbrev pub own_from : RankingModel → ℕ → Pages → PagerModel
own_from r f B = stepping (own_step f) own_held (record { ranking = r; count = 0; held = B })

-- the ranking's own run in f frames, which starts with nothing held, and its faults on a string
abbrev pub own : RankingModel → ℕ → PagerModel
own r f = own_from r f nothing

abbrev pub own_faults : RankingModel → ℕ → List ℕ → ℕ
own_faults r f s = instants_on (own r f) s

-- what a ranking is told over a string whose first reference is at the place suc p
abbrev pub tellings : ℕ → List ℕ → List Telling
tellings p [] = []
tellings p (x ∷ xs) = telling x (capped (suc p)) (next_place (capped (suc p)) x xs) ∷ tellings (capped (suc p)) xs

-- a table of numbers with one of them changed
abbrev pub noted : (ℕ → ℕ) → ℕ → ℕ → ℕ → ℕ
noted k c v d = cond (c == d) v (k d)

-- LRU's order by a table of last places: the later is ahead, and of equal ones the lower code
abbrev pub later : (ℕ → ℕ) → ℕ → ℕ → Bool
later k a b = nat_lt (k b) (k a) || (k a == k b && nat_lt a b)

-- LRU's ranking, from a table of last places
abbrev pub last_told : (ℕ → ℕ) → RankingModel
last_told k [] = later k
last_told k (t ∷ ts) = last_told (noted k t.code t.place) ts

-- MIN's order by a table of next places: the nearer is ahead, 0 is behind every place, and of equal ones the lower code is ahead
abbrev pub nearer : (ℕ → ℕ) → ℕ → ℕ → Bool
nearer k a b = cond (k a == k b) (nat_lt a b) (k b == 0 || (not (k a == 0) && nat_lt (k a) (k b)))

-- MIN's ranking, from a table of next places
abbrev pub next_told : (ℕ → ℕ) → RankingModel
next_told k [] = nearer k
next_told k (t ∷ ts) = next_told (noted k t.code t.next) ts

-- before any telling
abbrev pub untold : ℕ → ℕ
untold c = 0
