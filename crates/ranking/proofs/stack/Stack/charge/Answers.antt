use Rattle.std.proofs.Common.{◌≡◌, ℕ, leb, Option, sym, ap, ◌∙◌, arith}
use Rattle.std.specs.Option.{unwrap_or}
use Rattle.ranking.proofs.Lists.{has_within, counted_up}
use Rattle.ranking.proofs.stack.Stack.charge.Goals as goal

pub returns : goal.returns
returns c f h =
    let n = c.unwrap_or-faulting.result in
    let distance : unwrap_or c.distance.result 64 ≡ n = sym c.unwrap_or-faulting.ensures in
    counted_up c.args.row.now c.loop-faults.faults-items n f _ (omega (arith, h, c.told-row)) c.loop-faults.auto.faults-items
    (λ k l. c.loop-faults.invariant.0 k (omega (arith, c.loop-faults-test.false)))
    (has_within c.args.self.now c.args.code f 64 c.distance.ensures.few h ∙ ap (λ (k : ℕ). leb k f) (ap (λ (o : Option ℕ). unwrap_or o 64) (sym c.distance.ensures.place) ∙ distance))
