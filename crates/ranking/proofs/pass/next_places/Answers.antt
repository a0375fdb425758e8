use Rattle.std.proofs.Common.{◌-◌, length, get_or, replicate, set, refl, ◌∙◌, subst, ℕ, arith, length-set}
use Rattle.ranking.proofs.Places.{Nearest, nearest_end, next_places_end, step_back}
use Rattle.ranking.proofs.pass.next_places.Goals as goal

pub loop-t-init : goal.loop-t-init
loop-t-init c =
    let s = c.codes-codes.result.now in
    (refl, refl, nearest_end s (length s) refl, next_places_end s (replicate 4096 0) (length s) refl)

pub loop-t-preserved : goal.loop-t-preserved
loop-t-preserved c =
    let s = c.codes-codes.result.now in
    let t = c.loop-t.t in
    let x = get_or s (t - 1) 0 in
    let inv = c.loop-t.invariant in
    let r = step_back s c.loop-t.nearest c.loop-t.after t (t - 1) x (omega arith) (omega arith) (omega (arith, c.codes-codes.ensures.few)) inv.0 (omega (arith, c.codes-codes.ensures.few)) (omega (arith, c.type_inv.codes (t - 1))) refl inv.2 inv.3 in
    (length-set _ _ _ ∙ inv.0, length-set _ _ _ ∙ inv.1, subst (λ (k : ℕ). Nearest s (t - 1) (set c.loop-t.nearest x k)) (omega arith) r.0, r.1)
