-- Plans: the moves of a schedule, as words. Assumes nothing.
use Rattle.std.specs.Prelude.{◌≡◌, ℕ, zero, suc, ◌+◌, ◌*◌, ◌/◌, ◌%◌, ◌<◌, ◌≤◌, cond, not, ◌&&◌, List, [], ◌∷◌, ◌++◌, length, ◌==◌, nat_le}
use Rattle.paging.specs.Pages.{bit, codes, Pages, with_page, without}
use Rattle.paging.specs.Schedules.{Holding, pulls, releases}

-- a move in 32 bits: from the top the place in 13, the kind in one (1 for a pull, 0 for a release), the code in 8, and ten zero bits
abbrev pub word : ℕ → ℕ → ℕ → ℕ
word p k c = p * 524288 + k * 262144 + c * 1024

-- the pages of M that N has not
abbrev pub less : Pages → Pages → Pages
less M N c = M c && not (N c)

-- a word for each page below n of the set P, by rising code
unfoldable pub words : ℕ → ℕ → Pages → ℕ → List ℕ
words p k P zero = []
words p k P (suc n) = words p k P n ++ cond (P n) (word p k n ∷ []) []

-- the moves at the place p from the set M to the set N: the pages released, and then those pulled
abbrev pub moves : ℕ → Pages → Pages → List ℕ
moves p M N = words p 0 (less M N) codes ++ words p 1 (less N M) codes

-- the moves of the first p places of a schedule
unfoldable pub plan_words : Holding → ℕ → List ℕ
plan_words H zero = []
plan_words H (suc t) = plan_words H t ++ moves (suc t) (H t) (H (suc t))

-- what a word says: the place
abbrev pub place_of : ℕ → ℕ
place_of w = w / 524288

-- the kind
abbrev pub kind_of : ℕ → ℕ
kind_of w = w / 262144 % 2

-- and the code
abbrev pub code_in : ℕ → ℕ
code_in w = w / 1024 % 256

-- how many words are of the kind k
unfoldable pub kinds : ℕ → List ℕ → ℕ
kinds k [] = 0
kinds k (w ∷ ws) = bit (kind_of w == k) + kinds k ws

-- the set after the moves that the words tell of up to the place t
unfoldable pub replayed : ℕ → List ℕ → Pages → Pages
replayed t [] M = M
replayed t (w ∷ ws) M = replayed t ws (cond (nat_le (place_of w) t) (cond (kind_of w == 1) (with_page (code_in w) M) (without (code_in w) M)) M)

-- a plan has a word for each pull and for each release; and followed as far as any place it gives what is held there
pub record Tells (H : Holding) (p : ℕ) (ws : List ℕ) : Type 0 where
  pub pulling : kinds 1 ws ≡ pulls H p
  pub releasing : kinds 0 ws ≡ releases H p
  pub all : length ws ≡ pulls H p + releases H p
  pub holds : (t c : ℕ) → t ≤ p → c < codes → replayed t ws (H 0) c ≡ H t c

-- so it is with the plan of every schedule
abbrev pub PlansTell : Type 0
PlansTell = (H : Holding) (p : ℕ) → Tells H p (plan_words H p)
