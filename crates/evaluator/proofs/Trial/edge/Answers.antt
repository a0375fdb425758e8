use Rattle.std.proofs.Common.{◌≡◌, ℕ, List, Ok, sym, ap, ◌∙◌}
use Rattle.paging.specs.declared.policy.Policy.TheVariants.{Lru, Min, Dpmin}
use Rattle.paging.specs.Rankings.{RankingModel}
use Rattle.ranking.specs.Edges.{edge, at_count}
use Rattle.evaluator.specs.Answers.{found, instants_row, policy_edge, ranking_edge}
use Rattle.evaluator.specs.Strings.{string}
use Rattle.evaluator.proofs.ByLetter.{chosen, at_policy, row_edge}
use Rattle.evaluator.proofs.Trial.edge.Goals as goal

pub returns-in-Lru : goal.returns-in-Lru
returns-in-Lru c =
    let s = string c.args.self.now in
    c.edge_of.ensures ∙ ap (λ (r : RankingModel). ranking_edge r s c.args.ceiling) c.new.ensures
    ∙ at_policy c.args.letter Lru (policy_edge s c.args.ceiling) (chosen c.args.letter _ _ _ c.try_from.ensures c.in_ok-try_from.was c.in-Lru.is)

pub returns-in-Min : goal.returns-in-Min
returns-in-Min c =
    let s = string c.args.self.now in
    c.edge_of-in-Min.ensures ∙ ap (λ (r : RankingModel). ranking_edge r s c.args.ceiling) c.new-in-Min.ensures
    ∙ at_policy c.args.letter Min (policy_edge s c.args.ceiling) (chosen c.args.letter _ _ _ c.try_from.ensures c.in_ok-try_from.was c.in-Min.is)

pub returns-in_ok-dpmin_row-in-Dpmin : goal.returns-in_ok-dpmin_row-in-Dpmin
returns-in_ok-dpmin_row-in-Dpmin c =
    let s = string c.args.self.now in
    let cl = c.args.ceiling in
    let row : c.in_ok-dpmin_row-in-Dpmin.field-0 ≡ instants_row Dpmin s =
    let e : Ok c.in_ok-dpmin_row-in-Dpmin.field-0 ≡ Ok (instants_row Dpmin s) =
    sym c.in_ok-dpmin_row-in-Dpmin.was ∙ c.dpmin_row.ensures ∙ ap (λ (xs : List ℕ). Ok (instants_row Dpmin xs)) c.references.ensures in
    cc in
    c.within.ensures ∙ ap (λ (xs : List ℕ). found (edge (at_count xs) cl)) row ∙ ap found (row_edge Dpmin s cl)
    ∙ at_policy c.args.letter Dpmin (policy_edge s cl) (chosen c.args.letter _ _ _ c.try_from.ensures c.in_ok-try_from.was c.in-Dpmin.is)
