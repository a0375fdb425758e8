-- How many pages a reference in a ranking's own run pulls. Assumes nothing.
use Rattle.std.proofs.Common.{◌≡◌, ℕ, ◌+◌, ◌<◌, ◌≤◌, true, false, not, eqb, ◌⊎◌, List, [], ◌∷◌, ap, ◌∙◌, inl, inr, add-one}
use Rattle.std.proofs.lemmas.Bool.{cases_lt, and_parts}
use Rattle.paging.specs.Pages.{codes, Pages, size, without}
use Rattle.paging.specs.Schedules.{pulled}
use Rattle.paging.specs.Rankings.{RankingModel, OwnRun, admit, hindmost, capped, next_place, telling, told, own_step}
use Rattle.paging.proofs.Sets.{none_pulled, one_pulled}
use Rattle.paging.proofs.OwnRuns.{admit_hit, admit_room, admit_full}

pub hit_pulled : (f z x : ℕ) (M : Pages) → M x ≡ true → pulled M (admit f z x M) ≡ 0
hit_pulled f z x M h = ap (pulled M) (admit_hit f z x M h) ∙ none_pulled M

pub fault_pulled : (f z x : ℕ) (M : Pages) → x < codes → M x ≡ false → pulled M (admit f z x M) ≡ 1
fault_pulled f z x M l h = go (cases_lt (size M) f)
  where
    go : (size M < f) ⊎ (f ≤ size M) → pulled M (admit f z x M) ≡ 1
    go (inl few) = ap (pulled M) (admit_room f z x M h few) ∙ one_pulled x M M l h (λ c e. e)
    go (inr many) =
        ap (pulled M) (admit_full f z x M h many) ∙
        one_pulled x M (without z M) l h (λ c e. (and_parts (not (eqb z c)) (M c) e).1)

-- a reference in a ranking's own run, part by part
pub own_moved : (r r' : RankingModel) (n n' k f x : ℕ) (xs : List ℕ) (M N : Pages) → n' ≡ capped (n + 1) → k ≡ next_place n' x xs → r' ≡ told r (telling x n' k) →
    N ≡ admit f (hindmost (r' []) codes M) x M →
    ◌≡◌ {A = OwnRun} (record { ranking = r'; count = n'; held = N }) (own_step f (x ∷ xs) (record { ranking = r; count = n; held = M }))
own_moved r r' n n' k f x xs M N a b c d = rw (d, c, b, a, add-one)
