-- Where a row comes within a ceiling. Assumes nothing.
use Rattle.std.proofs.Common.{◌≡◌, ℕ, zero, suc, ◌+◌, ◌-◌, ◌<◌, ◌≤◌, ◌⊎◌, List, get_or, Some, None, sym, refl, ap, ◌∙◌, inl, inr, add-one, arith}
use Rattle.std.proofs.lemmas.List.FromFn.{get_or-map-range_with_len}
use Rattle.std.proofs.lemmas.Bool.{cases_lt, le-leb, lt-leb}
use Rattle.paging.specs.Rankings.{RankingModel, own_faults}
use Rattle.ranking.specs.Stack.{pass_row}
use Rattle.ranking.specs.Edges.{edge_from, edge, at_count, faults_at, Falls, LeastWithin, EdgeOf}

pub edge_none : (g : ℕ → ℕ) (ceiling f : ℕ) → edge_from g ceiling f 0 ≡ None
unfolding edge_from
edge_none g ceiling f = refl

pub edge_here : (g : ℕ → ℕ) (ceiling f n : ℕ) → g f ≤ ceiling → edge_from g ceiling f (suc n) ≡ Some f
unfolding edge_from
edge_here g ceiling f n l = rw (le-leb (g f) ceiling l)

pub edge_past : (g : ℕ → ℕ) (ceiling f n : ℕ) → ceiling < g f → edge_from g ceiling f (suc n) ≡ edge_from g ceiling (suc f) n
unfolding edge_from
edge_past g ceiling f n l = rw (lt-leb (g f) ceiling l)

-- two that agree at each frame count have one edge
edge_same_from : (g h : ℕ → ℕ) (ceiling f n : ℕ) → ((d : ℕ) → f ≤ d → d < f + n → g d ≡ h d) → edge_from g ceiling f n ≡ edge_from h ceiling f n
edge_same_from g h ceiling f zero e = edge_none g ceiling f ∙ sym (edge_none h ceiling f)
edge_same_from g h ceiling f (suc n) e =
    go (cases_lt ceiling (g f)) (edge_same_from g h ceiling (suc f) n (λ d l m. e d (omega arith) (omega arith)))
  where
    here : g f ≡ h f
    here = e f (omega arith) (omega arith)

    go : (ceiling < g f) ⊎ (g f ≤ ceiling) → edge_from g ceiling (suc f) n ≡ edge_from h ceiling (suc f) n → edge_from g ceiling f (suc n) ≡ edge_from h ceiling f (suc n)
    go (inl l) r = edge_past g ceiling f n l ∙ r ∙ sym (edge_past h ceiling f n (omega (arith, here)))
    go (inr l) r = edge_here g ceiling f n l ∙ sym (edge_here h ceiling f n (omega (arith, here)))

pub edge_same : (g h : ℕ → ℕ) (ceiling : ℕ) → ((d : ℕ) → 1 ≤ d → d ≤ 64 → g d ≡ h d) → edge g ceiling ≡ edge h ceiling
edge_same g h ceiling e = edge_same_from g h ceiling 1 64 (λ d l m. e d l (omega arith))

-- the row of a pass by frame count
pub pass_row_at : (r : RankingModel) (s : List ℕ) (d : ℕ) → 1 ≤ d → d ≤ 64 → at_count (pass_row r s) d ≡ faults_at r s d
pass_row_at r s zero l m = absurd (omega arith)
pass_row_at r s (suc k) l m =
    get_or-map-range_with_len (λ k. own_faults r (k + 1) s) 0 64 k k 0 (omega arith) (omega arith) ∙ ap (λ (f : ℕ). own_faults r f s) (add-one k)

-- the search has come to the number k
pub edge_more : (row : List ℕ) (ceiling k : ℕ) → k < 64 → ceiling < get_or row k 0 →
    edge_from (at_count row) ceiling (suc k) (64 - k) ≡ edge_from (at_count row) ceiling (suc (suc k)) (64 - suc k)
edge_more row ceiling k l h =
    let e : 64 - k ≡ suc (64 - suc k) = omega arith in
    ap (λ (n : ℕ). edge_from (at_count row) ceiling (suc k) n) e ∙ edge_past (at_count row) ceiling (suc k) (64 - suc k) h

pub edge_found : (row : List ℕ) (ceiling k : ℕ) → k < 64 → get_or row k 0 ≤ ceiling →
    edge_from (at_count row) ceiling (suc k) (64 - k) ≡ Some (suc k)
edge_found row ceiling k l h =
    let e : 64 - k ≡ suc (64 - suc k) = omega arith in
    ap (λ (n : ℕ). edge_from (at_count row) ceiling (suc k) n) e ∙ edge_here (at_count row) ceiling (suc k) (64 - suc k) h

-- the least of n frame counts from f on
data Search (g : ℕ → ℕ) (ceiling f n : ℕ) : Type 0 where
  least : (e : ℕ) → edge_from g ceiling f n ≡ Some e → f ≤ e → e < f + n → g e ≤ ceiling → ((d : ℕ) → f ≤ d → d < e → ceiling < g d) → Search g ceiling f n
  never : edge_from g ceiling f n ≡ None → ((d : ℕ) → f ≤ d → d < f + n → ceiling < g d) → Search g ceiling f n

search_from : (g : ℕ → ℕ) (ceiling f n : ℕ) → Search g ceiling f n
search_from g ceiling f zero = never (edge_none g ceiling f) (λ d l m. absurd (omega arith))
search_from g ceiling f (suc n) = go (cases_lt ceiling (g f)) (search_from g ceiling (suc f) n)
  where
    longer : (e d : ℕ) → ceiling < g f → ((d : ℕ) → suc f ≤ d → d < e → ceiling < g d) → f ≤ d → d < e → ceiling < g d
    longer e d h all l m = elim (cases_lt f d) [ inl q ↦ all d q m | inr q ↦ (let z : d ≡ f = omega arith in rw z h) ]

    go : (ceiling < g f) ⊎ (g f ≤ ceiling) → Search g ceiling (suc f) n → Search g ceiling f (suc n)
    go (inr h) _ = least f (edge_here g ceiling f n h) (omega arith) (omega arith) h (λ d l m. absurd (omega arith))
    go (inl h) (least e is lo hi w all) =
        least e (edge_past g ceiling f n h ∙ is) (omega arith) (omega arith) w (λ d l m. longer e d h all l m)
    go (inl h) (never is all) =
        never (edge_past g ceiling f n h ∙ is) (λ d l m. longer (f + suc n) d h (λ b lo hi. all b lo (omega arith)) l m)

-- a number that falls stays within
falls_on : (g : ℕ → ℕ) (e n : ℕ) → Falls g → 1 ≤ e → g (e + n) ≤ g e
falls_on g e zero falls some = let z : e + 0 ≡ e = omega arith in rw z (omega arith)
falls_on g e (suc n) falls some =
    let z : e + suc n ≡ suc (e + n) = omega arith in
    rw z (omega (arith, falls (e + n) (omega arith), falls_on g e n falls some))

pub edge_of : (g : ℕ → ℕ) (ceiling : ℕ) → EdgeOf g ceiling
edge_of g ceiling = by (search_from g ceiling 1 64)
  where
    one : (e d : ℕ) → edge g ceiling ≡ Some e → edge g ceiling ≡ Some d → e ≡ d
    one e d p q = cc

    apart : (e : ℕ) → edge g ceiling ≡ Some e → edge g ceiling ≡ None → ⊥
    apart e p q = let z : ◌≡◌ {A = ℕ} 0 1 = cc in omega arith

    by : Search g ceiling 1 64 → EdgeOf g ceiling
    by (least e is lo hi w all) =
        record {
          found = λ d q. let z = one e d is q in rw (← z) (record { some = lo; most = omega arith; within = w; least = all });
          answered = λ d m. same d m (cases_lt d e) (cases_lt e d);
          none = λ q. absurd (apart e is q);
          refused = λ q. absurd (omega (arith, q e lo (omega arith)));
          beyond = λ falls d f q l.
              let z = one e d is q in
              let s : d + (f - d) ≡ f = omega arith in
              let b : g (d + (f - d)) ≤ g d = falls_on g d (f - d) falls (omega arith) in
              let v : g d ≤ ceiling = rw (← z) w in
              omega (arith, rw s at b);
        }
      where
        same : (d : ℕ) → LeastWithin g ceiling d → (d < e) ⊎ (e ≤ d) → (e < d) ⊎ (d ≤ e) → edge g ceiling ≡ Some d
        same d m (inl l) _ = absurd (omega (arith, all d m.some l, m.within))
        same d m (inr l) (inl k) = absurd (omega (arith, m.least e lo k))
        same d m (inr l) (inr k) = let z : e ≡ d = omega arith in is ∙ ap (λ (a : ℕ). Some a) z
    by (never is all) =
        record {
          found = λ d q. absurd (apart d q is);
          answered = λ d m. absurd (omega (arith, all d m.some (omega (arith, m.most)), m.within));
          none = λ q f l m. all f l (omega arith);
          refused = λ _. is;
          beyond = λ falls d f q l. absurd (apart d q is);
        }
