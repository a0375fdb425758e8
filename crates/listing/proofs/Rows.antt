-- The figures of a row, as the calls of a trial answer them. Assumes nothing.
use Rattle.std.proofs.Common.{◌≡◌, ℕ, ◌+◌, ◌<◌, ◌≤◌, true, List, get_or, Ok, Result, ap, ◌∙◌, arith}
use Rattle.std.proofs.lemmas.List.FromFn.{get_or-map-range_with_len}
use Rattle.std.proofs.lemmas.Bool.{cond-true, le-leb}
use Rattle.paging.specs.declared.policy.Policy.TheVariants.{Lru, Min, Dpmin}
use Rattle.paging.specs.declared.refusal.Refusal.{Refusal}
use Rattle.paging.specs.Frames.{is_frames}
use Rattle.paging.specs.Policies.{instants, pulls_of}
use Rattle.paging.specs.Rankings.{RankingModel, own_faults}
use Rattle.ranking.specs.Stack.{pass_row}
use Rattle.evaluator.specs.Answers.{figures_answer}
use Rattle.listing.specs.declared.text.Row.{Row}
use Rattle.listing.specs.Listings.{row_of}

-- of the numbers of a pass over a ranking, the one at a place
pub passed_at : (r q : RankingModel) (s row : List ℕ) (i : ℕ) → row ≡ pass_row r s → r ≡ q → i < 64 → get_or row i 0 ≡ own_faults q (i + 1) s
passed_at r q s row i e w h =
    ap (λ (xs : List ℕ). get_or xs i 0) (e ∙ ap (λ (m : RankingModel). pass_row m s) w)
    ∙ get_or-map-range_with_len (λ k. own_faults q (k + 1) s) 0 64 i i 0 h (omega arith)

-- DPMIN's figures at a frame count from 1 to 64
pub dpmin_figures : (f : ℕ) (s : List ℕ) → 1 ≤ f → f ≤ 64 → figures_answer 68 f s ≡ Ok (instants Dpmin f s, pulls_of Dpmin f s)
dpmin_figures f s l m = cond-true _ _ _ (framed f l m)
  where
    framed : (f : ℕ) → 1 ≤ f → f ≤ 64 → is_frames f ≡ true
    framed f l m = rw (le-leb 1 f l, le-leb f 64 m)

abbrev pub row : ℕ → ℕ → ℕ → ℕ → ℕ → Row
row f l m d p = record { frames = f; lru = l; min = m; dpmin = d; pulls = p }

-- a row of which each number is what it should be
pub row_made : (s : List ℕ) (f l m d p : ℕ) → l ≡ instants Lru f s → m ≡ instants Min f s →
    d ≡ instants Dpmin f s → p ≡ pulls_of Dpmin f s → row f l m d p ≡ row_of s f
row_made s f l m d p a b c e = rw (a, b, c, e)

-- an answer of two numbers is known by each
pub same_pair : (r : Result (ℕ × ℕ) Refusal) (a b x y : ℕ) → r ≡ Ok (a, b) → r ≡ Ok (x, y) → (a ≡ x) × (b ≡ y)
same_pair r a b x y e f = let q : ◌≡◌ {A = ℕ × ℕ} (a, b) (x, y) = cc in (ap (λ (z : ℕ × ℕ). z.0) q, ap (λ (z : ℕ × ℕ). z.1) q)
