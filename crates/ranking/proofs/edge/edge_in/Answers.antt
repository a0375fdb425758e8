use Rattle.std.proofs.Common.{◌≡◌, ℕ, suc, ◌-◌, Some, sym, ap, ◌∙◌, subst, add-one, arith}
use Rattle.ranking.specs.Edges.{edge_from, edge, at_count}
use Rattle.ranking.proofs.Edges.{edge_none, edge_more, edge_found}
use Rattle.ranking.proofs.edge.edge_in.Goals as goal

pub returns-then-faults-ceiling : goal.returns-then-faults-ceiling
returns-then-faults-ceiling c =
    let k = c.loop-k.k in
    ap (λ (e : ℕ). Some e) (add-one k) ∙ sym (c.loop-k.invariant ∙ edge_found c.args.row.now c.args.ceiling k c.loop-k-test.true c.if-faults-ceiling.true)

pub loop-k-preserved : goal.loop-k-preserved
loop-k-preserved c =
    let k = c.loop-k.k in
    let row = c.args.row.now in
    subst (λ (j : ℕ). edge (at_count row) c.args.ceiling ≡ edge_from (at_count row) c.args.ceiling (suc j) (64 - j)) (sym (add-one k))
    (c.loop-k.invariant ∙ edge_more row c.args.ceiling k c.loop-k-test.true c.if-faults-ceiling.false)

pub returns : goal.returns
returns c =
    let k = c.loop-k.k in
    let row = c.args.row.now in
    let e : 64 - k ≡ 0 = omega arith in
    sym (c.loop-k.invariant ∙ ap (λ (n : ℕ). edge_from (at_count row) c.args.ceiling (suc k) n) e ∙ edge_none (at_count row) c.args.ceiling (suc k))
