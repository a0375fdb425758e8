-- The guarantee, for every row of calls. Assumes nothing.
use Rattle.std.proofs.Common.{◌≡◌, ℕ, zero, suc, ◌+◌, ◌-◌, ◌<◌, ◌≤◌, Bool, true, false, cond, eqb, ltb, leb, ◌⊎◌, List, [], ◌∷◌, ◌++◌, length, get_or, take, Some, None, Ok, Err, Option, refl, subst, inl, inr, arith}
use Rattle.std.proofs.lemmas.List.{length_push, length-take-le, get_or-take, get_or_push, get_or_append_left}
use Rattle.std.proofs.lemmas.Bool.{cases_Bool, cases_lt, ltb-true, le-leb, and_from, eq-eqb}
use Rattle.paging.specs.declared.policy.Policy.TheVariants.{Lru, Min, Dpmin}
use Rattle.paging.specs.declared.refusal.Refusal.{Refusal}
use Rattle.paging.specs.declared.refusal.Refusal.TheVariants.{BadFrameCount, PagerHoldsPages}
use Rattle.paging.specs.Frames.{is_frames}
use Rattle.paging.specs.Pages.{codes, size}
use Rattle.paging.specs.Schedules.{Coded}
use Rattle.paging.specs.Models.{PagerModel, Keeps, instants_on, pulls_on}
use Rattle.paging.specs.Rankings.{RankingModel, Orders, last_told, next_told, untold}
use Rattle.paging.specs.Policies.{instants, pulls_of}
use Rattle.paging.specs.Theorems.{Least, StartsEmpty}
use Rattle.paging.proofs.Least.{policies_least, dpmin_more_frames}
use Rattle.paging.proofs.Orders.{last_orders, next_orders}
use Rattle.paging.proofs.Sums.{member}
use Rattle.ranking.specs.Edges.{edge, faults_at, Falls}
use Rattle.ranking.proofs.Edges.{edge_of, pass_row_at}
use Rattle.ranking.proofs.Inclusions.{faults_fall}
use Rattle.evaluator.specs.Strings.{put_string, take_string}
use Rattle.evaluator.specs.Answers.{figures_answer, run_answer, instants_at, found}
use Rattle.evaluator.specs.Histories.{Call, put, take_back, clear, load, after_call, after_calls, Possible, AllPossible}
use Rattle.evaluator.specs.Guarantee.{Told, letter_m, letter_d, FewestPulls, FewestInstants, NoBetter, AtFrames, EdgeTold, Ranked, EdgesByLetter, Stands, Guarantee}
use Rattle.evaluator.proofs.Loads.{load_fits}

-- a string of at most 4,096 references to pages
abbrev Fits : List ℕ → Type 0
Fits s = (length s ≤ 4096) × Coded s

put_fits : (s : List ℕ) (c : ℕ) → c < codes → Fits s → Fits (put_string s c)
put_fits s c l h = go (cases_Bool (ltb (length s) 4096))
  where
    at : (t : ℕ) → t < length (s ++ c ∷ []) → get_or (s ++ c ∷ []) t 0 < codes
    at t q = pick (cases_lt t (length s))
      where
        pick : (t < length s) ⊎ (length s ≤ t) → get_or (s ++ c ∷ []) t 0 < codes
        pick (inl p) = rw (get_or_append_left s (c ∷ []) 0 t p) (h.1 t p)
        pick (inr p) = let e : length s ≡ t = omega (arith, length_push s c) in rw (get_or_push s c 0 t e) l

    go : (ltb (length s) 4096 ≡ true) ⊎ (ltb (length s) 4096 ≡ false) → Fits (put_string s c)
    go (inl b) = rw b (omega (arith, length_push s c, ltb-true (length s) 4096 b), at)
    go (inr b) = rw b h

take_fits : (s : List ℕ) (k : ℕ) → Fits s → Fits (take_string s k)
take_fits s k h = go (cases_Bool (leb k (length s)))
  where
    long : length (take (length s - k) s) ≡ length s - k
    long = length-take-le (length s - k) s (omega arith)

    go : (leb k (length s) ≡ true) ⊎ (leb k (length s) ≡ false) → Fits (take_string s k)
    go (inl b) = rw b (omega (arith, long, h.0), λ t q. rw (get_or-take (length s - k) s t 0 (omega (arith, long))) (h.1 t (omega (arith, long))))
    go (inr b) = rw b h

call_fits : (s : List ℕ) (c : Call) → Possible c → Fits s → Fits (after_call s c)
call_fits s (put c) p h = put_fits s c p h
call_fits s (take_back k) p h = take_fits s k h
call_fits s clear p h = (omega arith, λ t q. absurd (omega arith))
call_fits s (load kind width places bytes) p h = load_fits kind width places bytes

calls_fit : (s : List ℕ) (cs : List Call) → AllPossible cs → Fits s → Fits (after_calls s cs)
calls_fit s [] p h = h
calls_fit s (c ∷ cs) p h = calls_fit (after_call s c) cs p.1 (call_fits s c p.0 h)

-- at a frame count figures are told, and a run of a pager that holds nothing
frames_true : (f : ℕ) → 1 ≤ f → f ≤ 64 → is_frames f ≡ true
frames_true f a b = and_from (leb 1 f) (leb f 64) (le-leb 1 f a) (le-leb f 64 b)

told_from : {X : Type 0} (b : Bool) (x : X) (e : Refusal) (P : X → Type 0) → b ≡ true → P x → Told (cond b (Ok x) (Err e)) P
told_from true x e P t p = p
told_from false x e P t p = let z : false ≡ true = t in let q : ◌≡◌ {A = ℕ} 0 1 = cc in absurd (omega arith)

module _ (f : ℕ) (some : 1 ≤ f) (most : f ≤ 64) (s : List ℕ) (fits : Fits s) where
  least : Least f s
  least = policies_least f s some most fits.1 fits.0

  min_told : Told (figures_answer letter_m f s) (FewestPulls f s)
  min_told =
      told_from (is_frames f) (instants Min f s, pulls_of Min f s) BadFrameCount (FewestPulls f s) (frames_true f some most)
      (record { fewest = least.fewest_pulls; own = least.own_min; exactly = refl })

  dpmin_told : Told (figures_answer letter_d f s) (FewestInstants f s)
  dpmin_told =
      told_from (is_frames f) (instants Dpmin f s, pulls_of Dpmin f s) BadFrameCount (FewestInstants f s) (frames_true f some most)
      (record { fewest = least.fewest_instants; own = least.own_dpmin.0; own_prepages = least.own_dpmin.1; exactly = refl })

  holds_none : (b : PagerModel) → size (b []) ≡ 0 → StartsEmpty b
  holds_none b e c l = go (cases_Bool (b [] c))
    where
      go : (b [] c ≡ true) ⊎ (b [] c ≡ false) → b [] c ≡ false
      go (inl h) = absurd (omega (arith, e, member codes c (b []) l h))
      go (inr h) = h

  pagers_told : (b : PagerModel) → Keeps f b → size (b []) ≡ 0 → Told (run_answer b s) (NoBetter f s b)
  pagers_told b k e =
      told_from (eqb (size (b [])) 0) (instants_on b s, pulls_on b s) PagerHoldsPages (NoBetter f s b) (eq-eqb (size (b [])) 0 e)
      (record {
        instants = refl;
        pulling = refl;
        above_dpmin = told_from (is_frames f) (instants Dpmin f s, pulls_of Dpmin f s) BadFrameCount (λ d. d.0 ≤ instants_on b s) (frames_true f some most) (least.pager_instants b k (holds_none b e));
        above_min = told_from (is_frames f) (instants Min f s, pulls_of Min f s) BadFrameCount (λ m. m.1 ≤ pulls_on b s) (frames_true f some most) (least.pager_pulls b k (holds_none b e));
      })

  at_frames : AtFrames f s
  at_frames = record { min = min_told; dpmin = dpmin_told; pagers = pagers_told }

-- an edge, where more frames never give more
module _ (g : ℕ → ℕ) (ceiling : ℕ) (falls : (e f : ℕ) → 1 ≤ e → e ≤ f → f ≤ 64 → g f ≤ g e) where
  edge_found : (o : Option ℕ) → edge g ceiling ≡ o → EdgeTold g ceiling (found o)
  edge_found (Some e) h =
      let w = (edge_of g ceiling).found e h in
      record {
        some = w.some;
        most = w.most;
        within = w.within;
        smallest = w.least;
        larger = λ f l m. omega (arith, w.within, falls e f w.some l m);
      }
  edge_found None h = (refl, (edge_of g ceiling).none h)

  edge_told : EdgeTold g ceiling (found (edge g ceiling))
  edge_told = edge_found (edge g ceiling) refl

-- step by step to any larger frame count
falls_far : (g : ℕ → ℕ) → Falls g → (e d : ℕ) → 1 ≤ e → g (d + e) ≤ g e
falls_far g falls e zero l = let z : 0 + e ≡ e = omega arith in rw z (omega arith)
falls_far g falls e (suc d) l =
    let z : suc d + e ≡ suc (d + e) = omega arith in
    rw z (omega (arith, falls_far g falls e d l, falls (d + e) (omega arith)))

module _ (s : List ℕ) (fits : Fits s) where
  ranking_falls : (r : RankingModel) → Orders r → (e f : ℕ) → 1 ≤ e → e ≤ f → f ≤ 64 → faults_at r s f ≤ faults_at r s e
  ranking_falls r orders e f l h m =
      let z : (f - e) + e ≡ f = omega arith in
      subst (λ (k : ℕ). faults_at r s k ≤ faults_at r s e) z (falls_far (faults_at r s) (faults_fall r orders s fits.1) e (f - e) l)

  ranked : (r : RankingModel) → Orders r → Ranked r s
  ranked r orders =
      record {
        pass = λ f some most. pass_row_at r s f some most;
        edge = λ ceiling. edge_told (faults_at r s) ceiling (ranking_falls r orders);
      }

  edges_told : (ceiling : ℕ) → EdgesByLetter s ceiling
  edges_told ceiling =
      record {
        lru = edge_told (instants_at Lru s) ceiling (ranking_falls (last_told untold) (last_orders untold));
        min = edge_told (instants_at Min s) ceiling (ranking_falls (next_told untold) (next_orders untold));
        dpmin = edge_told (instants_at Dpmin s) ceiling (λ e f l h m. dpmin_more_frames e f s l (omega arith) h fits.1);
      }

  stands : Stands s
  stands =
      record {
        at_frames = λ f some most. at_frames f some most s fits;
        rankings = ranked;
        edges = edges_told;
      }

pub guarantee : Guarantee
guarantee calls possible = stands (after_calls [] calls) (calls_fit [] calls possible (omega arith, λ t q. absurd (omega arith)))
