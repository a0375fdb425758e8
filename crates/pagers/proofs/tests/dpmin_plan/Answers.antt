-- The memory is long enough for any plan of twelve references. Assumes nothing.
use Rattle.std.proofs.Common.{◌≤◌, ℕ, List, length, sym, subst}
use Rattle.paging.specs.Models.{held_on}
use Rattle.pager.specs.Plans.{plan_words}
use Rattle.pagers.specs.Pagers.{dpmin_model}
use Rattle.pager.proofs.Replays.{plan_most}
use Rattle.pagers.proofs.tests.dpmin_plan.Goals as goal

pub plan-count-requires : goal.plan-count-requires
plan-count-requires g c =
    let b = dpmin_model c.new-pager.result in
    subst (λ (s : List ℕ). length (plan_words (held_on b s) (length s)) ≤ 6144) (sym c.new-string.ensures) (plan_most (held_on b _) 12)
