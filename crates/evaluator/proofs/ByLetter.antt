-- Answers by letter, once the policy is known. Assumes nothing.
use Rattle.std.proofs.Common.{◌≡◌, ℕ, zero, suc, ◌+◌, ◌≤◌, List, [], Ok, Result, sym, ap, ◌∙◌, add-one, arith}
use Rattle.std.proofs.lemmas.List.FromFn.{get_or-map-range_with_len}
use Rattle.paging.specs.declared.policy.Policy.{Policy}
use Rattle.paging.specs.declared.policy.Policy.TheVariants.{Lru, Min, Dpmin, Fifo}
use Rattle.paging.specs.Pages.{size}
use Rattle.paging.proofs.Sets.{size_nothing}
use Rattle.paging.specs.declared.refusal.Refusal.{Refusal}
use Rattle.paging.specs.Policies.{model}
use Rattle.recording.specs.Reading.{and_then}
use Rattle.ranking.specs.Edges.{edge, at_count}
use Rattle.ranking.proofs.Edges.{edge_same}
use Rattle.paging.specs.Letters.{policy_of}
use Rattle.evaluator.specs.Answers.{instants_at, instants_row}

-- the letter's answer was the policy q, and q is p
pub chosen : (letter : ℕ) (p q : Policy) (r : Result Policy Refusal) → r ≡ policy_of letter → r ≡ Ok q → q ≡ p → policy_of letter ≡ Ok p
chosen letter p q r e w i = sym e ∙ w ∙ ap Ok i

pub at_policy : {Y : Type 0} (letter : ℕ) (p : Policy) (go : Policy → Result Y Refusal) → policy_of letter ≡ Ok p → go p ≡ and_then (policy_of letter) go
at_policy {Y} letter p go e = sym (ap (λ (r : Result Policy Refusal). and_then r go) e)

-- the edge in a row is that in the numbers of the row
pub row_edge : (p : Policy) (s : List ℕ) (ceiling : ℕ) → edge (at_count (instants_row p s)) ceiling ≡ edge (instants_at p s) ceiling
row_edge p s ceiling = edge_same (at_count (instants_row p s)) (instants_at p s) ceiling at
  where
    at : (d : ℕ) → 1 ≤ d → d ≤ 64 → at_count (instants_row p s) d ≡ instants_at p s d
    at zero l m = absurd (omega arith)
    at (suc d) l m = get_or-map-range_with_len (λ k. instants_at p s (k + 1)) 0 64 d d 0 (omega arith) (omega arith) ∙ ap (instants_at p s) (add-one d)

-- a pager that is the policy's model holds nothing yet
pub model_empty : (p : Policy) (f : ℕ) → size (model p f []) ≡ 0
model_empty Lru f = size_nothing
model_empty Min f = size_nothing
model_empty Dpmin f = size_nothing
model_empty Fifo f = size_nothing
