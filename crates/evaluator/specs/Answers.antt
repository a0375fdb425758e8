-- What the calls of a trial answer, of its string. Assumes nothing.
use Rattle.std.specs.Prelude.{ℕ, ◌+◌, cond, List, [], ◌++◌, map, length, drop, Some, None, Ok, Err, Option, Result, ◌==◌, nat_le}
use Rattle.std.specs.List.{range_with_len}
use Rattle.paging.specs.declared.policy.Policy.{Policy}
use Rattle.paging.specs.declared.policy.Policy.TheVariants.{Lru, Min, Dpmin, Fifo}
use Rattle.paging.specs.declared.refusal.Refusal.{Refusal}
use Rattle.paging.specs.declared.refusal.Refusal.TheVariants.{BadFrameCount, PolicyWithoutEdge, NoFrameCountWithin, PagerHoldsPages, OutputTooShort}
use Rattle.paging.specs.Frames.{is_frames}
use Rattle.paging.specs.Letters.{policy_of}
use Rattle.paging.specs.Pages.{size}
use Rattle.paging.specs.Models.{PagerModel, after, held_on, instants_on, pulls_on}
use Rattle.paging.specs.Rankings.{RankingModel, told_all, tellings}
use Rattle.paging.specs.Policies.{model, instants, pulls_of}
use Rattle.pager.specs.Plans.{plan_words}
use Rattle.recording.specs.Reading.{and_then}
use Rattle.ranking.specs.Edges.{edge, faults_at}
use Rattle.ranking.specs.Stack.{pass_row}

-- what a call with a letter and a frame count answers: the letter is looked at first
abbrev pub by_policy : {Y : Type 0} → ℕ → ℕ → (Policy → Result Y Refusal) → Result Y Refusal
by_policy l f go = and_then (policy_of l) (λ p. cond (is_frames f) (go p) (Err BadFrameCount))

-- figures: the fault instants and the pulls of the policy's schedule
abbrev pub figures_answer : ℕ → ℕ → List ℕ → Result (ℕ × ℕ) Refusal
figures_answer l f s = by_policy l f (λ p. Ok (instants p f s, pulls_of p f s))

-- an edge is answered, and where there is none the call is refused
abbrev pub found : Option ℕ → Result ℕ Refusal
found (Some e) = Ok e
found None = Err NoFrameCountWithin

-- the fault instants of a policy by frame count
abbrev pub instants_at : Policy → List ℕ → ℕ → ℕ
instants_at p s f = instants p f s

-- and those at the frame counts 1 to 64
abbrev pub instants_row : Policy → List ℕ → List ℕ
instants_row p s = map (λ k. instants p (k + 1) s) (range_with_len 0 64)

-- edge: of a policy, over its fault instants; FIFO has none
abbrev pub policy_edge : List ℕ → ℕ → Policy → Result ℕ Refusal
policy_edge s c Fifo = Err PolicyWithoutEdge
policy_edge s c Lru = found (edge (instants_at Lru s) c)
policy_edge s c Min = found (edge (instants_at Min s) c)
policy_edge s c Dpmin = found (edge (instants_at Dpmin s) c)

abbrev pub edge_answer : ℕ → List ℕ → ℕ → Result ℕ Refusal
edge_answer l s c = and_then (policy_of l) (policy_edge s c)

-- and of any ranking, over the faults of its own runs
abbrev pub ranking_edge : RankingModel → List ℕ → ℕ → Result ℕ Refusal
ranking_edge r s c = found (edge (faults_at r s) c)

-- run: the fault instants and the pulls of a pager that holds nothing
abbrev pub run_answer : PagerModel → List ℕ → Result (ℕ × ℕ) Refusal
run_answer b s = cond (size (b []) == 0) (Ok (instants_on b s, pulls_on b s)) (Err PagerHoldsPages)

-- the pager afterwards: served the whole string, or as it was
abbrev pub run_leaves : PagerModel → List ℕ → PagerModel
run_leaves b s = cond (size (b []) == 0) (after b s (length s)) b

-- what is written into provided memory: the words, with the rest as it was, or nothing where they do not fit
abbrev pub written : List ℕ → List ℕ → List ℕ
written words out = cond (nat_le (length words) (length out)) (words ++ drop (length words) out) out

-- the answer of a call that writes: how many words there are, if they fit
abbrev pub write_answer : ℕ → List ℕ → Result ℕ Refusal
write_answer n out = cond (nat_le n (length out)) (Ok n) (Err OutputTooShort)

-- the plan of a pager, and of a policy: the words of its moves over the whole string
abbrev pub model_plan : PagerModel → List ℕ → List ℕ
model_plan b s = plan_words (held_on b s) (length s)

abbrev pub plan_of : Policy → ℕ → List ℕ → List ℕ
plan_of p f s = model_plan (model p f) s

-- plan: how many words there are
abbrev pub plan_answer : ℕ → ℕ → List ℕ → List ℕ → Result ℕ Refusal
plan_answer l f s out = by_policy l f (λ p. write_answer (length (plan_of p f s)) out)

-- the memory after a plan: the words, with the rest as it was, or nothing where the call was refused
abbrev pub planned : ℕ → List ℕ → List ℕ → Result Policy Refusal → List ℕ
planned f s out (Ok p) = cond (is_frames f) (written (plan_of p f s) out) out
planned f s out (Err e) = out

abbrev pub plan_writes : ℕ → ℕ → List ℕ → List ℕ → List ℕ
plan_writes l f s out = planned f s out (policy_of l)

-- the ranking after a pass: told the whole string, or as it was where the row does not fit
abbrev pub pass_leaves : RankingModel → List ℕ → List ℕ → RankingModel
pass_leaves r s out = cond (nat_le 64 (length out)) (told_all r (tellings 0 s)) r

-- the memory after a pass: the row of 64 numbers, with the rest as it was, or nothing where it does not fit
abbrev pub pass_writes : RankingModel → List ℕ → List ℕ → List ℕ
pass_writes r s out = cond (nat_le 64 (length out)) (pass_row r s ++ drop 64 out) out
