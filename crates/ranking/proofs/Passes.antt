-- One place of a pass. Assumes nothing.
use Rattle.std.proofs.Common.{◌≡◌, ℕ, suc, ◌+◌, ◌<◌, ◌≤◌, true, not, List, [], length, get_or, take, drop, sym, ap, ◌∙◌, subst, arith, drop-cons}
use Rattle.std.proofs.lemmas.List.{take-take, drop_all}
use Rattle.paging.specs.Pages.{bit, Pages, has}
use Rattle.paging.specs.Schedules.{faults}
use Rattle.paging.specs.Models.{held_on}
use Rattle.paging.specs.Rankings.{RankingModel, Orders, telling, told, told_all, told_of, capped, next_place, tellings, OwnRun, own_step, own_held, own_from}
use Rattle.paging.proofs.Sums.{total_none, total_suc}
use Rattle.paging.proofs.Models.{states, states_more, held_stepping}
use Rattle.ranking.specs.Stack.{restacked}
use Rattle.paging.specs.Queues.{once, coded}
use Rattle.ranking.proofs.Stacks.{held_restacked}
use Rattle.ranking.proofs.Places.{capped_is}

abbrev pub run_state : RankingModel → ℕ → Pages → OwnRun
run_state r i M = record { ranking = r; count = i; held = M }

-- the state of the run in f frames from the pages B, after the first i places
abbrev pub run_after : RankingModel → ℕ → Pages → List ℕ → ℕ → OwnRun
run_after r f B s i = states (own_step f) (run_state r 0 B) s i

-- a reference is told of, and then the frames hold the first pages of the stack again
pub run_step : (r₀ r : RankingModel) (B : Pages) (s st : List ℕ) (i n f : ℕ) → Orders (told_of r (capped (suc n)) (get_or s i 0) (drop (suc i) s)) →
    once st ≡ true → coded st ≡ true → i < length s → run_after r₀ (suc f) B s i ≡ run_state r n (has (take (suc f) st)) →
    run_after r₀ (suc f) B s (suc i) ≡
    run_state (told_of r (capped (suc n)) (get_or s i 0) (drop (suc i) s)) (capped (suc n))
    (has (take (suc f) (restacked (told_of r (capped (suc n)) (get_or s i 0) (drop (suc i) s) []) (get_or s i 0) st)))
run_step r₀ r B s st i n f orders a l h before =
    let x = get_or s i 0 in
    let p = capped (suc n) in
    let r' = told_of r p x (drop (suc i) s) in
    let Step : OwnRun → OwnRun = λ q. own_step (suc f) (drop i s) q in
    let Row : List ℕ → OwnRun = λ ys. own_step (suc f) ys (run_state r n (has (take (suc f) st))) in
    let Held : Pages → OwnRun = λ N. run_state r' p N in
    states_more (own_step (suc f)) (run_state r₀ 0 B) s i h ∙ ap Step before ∙ ap Row (drop-cons s i 0 h) ∙
    ap Held (held_restacked (r' []) (orders []) f x st a l)

-- the same where places are far below the limit
run_more : (r₀ r r' : RankingModel) (B : Pages) (s st : List ℕ) (i f : ℕ) → Orders r' → once st ≡ true → coded st ≡ true →
    i < length s → i < 65535 → r' ≡ told r (telling (get_or s i 0) (suc i) (next_place (suc i) (get_or s i 0) (drop (suc i) s))) →
    run_after r₀ (suc f) B s i ≡ run_state r i (has (take (suc f) st)) →
    run_after r₀ (suc f) B s (suc i) ≡ run_state r' (suc i) (has (take (suc f) (restacked (r' []) (get_or s i 0) st)))
run_more r₀ r r' B s st i f orders a l h small moves before =
    let x = get_or s i 0 in
    let rest = drop (suc i) s in
    let Told : ℕ → RankingModel = λ p. told_of r p x rest in
    let Then : RankingModel → ℕ → OwnRun = λ ρ p. run_state ρ p (has (take (suc f) (restacked (ρ []) x st))) in
    let At : ℕ → OwnRun = λ p. Then (Told p) p in
    let With : RankingModel → OwnRun = λ ρ. Then ρ (suc i) in
    let here : capped (suc i) ≡ suc i = capped_is (suc i) (omega arith) in
    let orders' : Orders (Told (capped (suc i))) = subst Orders (moves ∙ ap Told (sym here)) orders in
    run_step r₀ r B s st i i f orders' a l h before ∙ ap At here ∙ ap With (sym moves)

-- the run in suc f frames after i places: its frames hold the first pages of the stack st, and n faults were counted
pub record Tracked (r₀ r : RankingModel) (B : Pages) (s st : List ℕ) (i n f : ℕ) : Type 0 where
  pub state : run_after r₀ (suc f) B s i ≡ run_state r i (has (take (suc f) st))
  pub counts : n ≡ faults s (held_on (own_from r₀ (suc f) B) s) i

pub tracked_none : (r : RankingModel) (B : Pages) (s st : List ℕ) (f : ℕ) → B ≡ has (take (suc f) st) → Tracked r r B s st 0 0 f
tracked_none r B s st f e = record { state = ap (λ (M : Pages). run_state r 0 M) e; counts = sym (total_none _) }

-- what is held at a place
pub held_then : (r₀ r : RankingModel) (B : Pages) (s st : List ℕ) (i n f : ℕ) → run_after r₀ f B s i ≡ run_state r n (has (take f st)) →
    held_on (own_from r₀ f B) s i ≡ has (take f st)
held_then r₀ r B s st i n f e =
    held_stepping (own_step f) own_held (run_state r₀ 0 B) s i ∙ ap own_held e

pub tracked_more : (r₀ r r' : RankingModel) (B : Pages) (s st st' : List ℕ) (i n n' f : ℕ) → Orders r' → once st ≡ true → coded st ≡ true →
    i < length s → i < 65535 → r' ≡ told r (telling (get_or s i 0) (suc i) (next_place (suc i) (get_or s i 0) (drop (suc i) s))) →
    n' ≡ n + bit (not (has (take (suc f) st) (get_or s i 0))) → st' ≡ take 64 (restacked (r' []) (get_or s i 0) st) → f < 64 →
    Tracked r₀ r B s st i n f → Tracked r₀ r' B s st' (suc i) n' f
tracked_more r₀ r r' B s st st' i n n' f orders a l h small moves count stack low-f t =
    let x = get_or s i 0 in
    let H = held_on (own_from r₀ (suc f) B) s in
    let cut : take (suc f) st' ≡ take (suc f) (restacked (r' []) x st) = ap (take (suc f)) stack ∙ take-take (suc f) 64 (restacked (r' []) x st) (omega arith) in
    let here : bit (not (H i x)) ≡ bit (not (has (take (suc f) st) x)) = ap (λ (M : Pages). bit (not (M x))) (held_then r₀ r B s st i i (suc f) t.state) in
    let more : faults s H (suc i) ≡ bit (not (H i x)) + faults s H i = total_suc i (λ t. bit (not (H t (get_or s t 0)))) in
    let before = t.counts in
    record {
      state = run_more r₀ r r' B s st i f orders a l h small moves t.state ∙ ap (λ (zs : List ℕ). run_state r' (suc i) (has zs)) (sym cut);
      counts = omega arith;
    }

-- what the ranking is still to be told of
pub told_more : (r r' : RankingModel) (s : List ℕ) (i : ℕ) → i < length s → i < 65535 →
    r' ≡ told r (telling (get_or s i 0) (suc i) (next_place (suc i) (get_or s i 0) (drop (suc i) s))) →
    told_all r (tellings i (drop i s)) ≡ told_all r' (tellings (suc i) (drop (suc i) s))
told_more r r' s i h small moves =
    let x = get_or s i 0 in
    let rest = drop (suc i) s in
    let Row : List ℕ → RankingModel = λ ys. told_all r (tellings i ys) in
    let At : ℕ → RankingModel = λ p. told_all (told_of r p x rest) (tellings p rest) in
    let Then : RankingModel → RankingModel = λ ρ. told_all ρ (tellings (suc i) rest) in
    ap Row (drop-cons s i 0 h) ∙ ap At (capped_is (suc i) (omega arith)) ∙ ap Then (sym moves)

pub told_end : (r : RankingModel) (s : List ℕ) (i : ℕ) → length s ≤ i → told_all r (tellings i (drop i s)) ≡ r
told_end r s i h = let Row : List ℕ → RankingModel = λ ys. told_all r (tellings i ys) in ap Row (drop_all i s h)
