use Rattle.std.proofs.Common.{◌≡◌, ℕ, suc, ◌+◌, ◌<◌, ◌≤◌, Bool, true, false, not, List, [], length, get_or, take, drop, sym, refl, ap, ◌∙◌, subst, add-one, arith}
use Rattle.std.proofs.lemmas.List.{get_or-replicate}
use Rattle.std.proofs.lemmas.List.FromFn.{fill_by_all}
use Rattle.paging.specs.Pages.{bit, nothing, has}
use Rattle.paging.specs.Schedules.{faults}
use Rattle.paging.specs.Models.{held_on}
use Rattle.paging.specs.Rankings.{RankingModel, telling, told, told_all, tellings, next_place, own_from, own_faults}
use Rattle.ranking.specs.Places.{NextPlaces}
use Rattle.ranking.specs.Stack.{restacked, pass_row}
use Rattle.paging.specs.Queues.{once, coded}
use Rattle.ranking.proofs.Lists.{once_take, coded_take}
use Rattle.ranking.proofs.Stacks.{once_restacked, coded_restacked}
use Rattle.ranking.proofs.Passes.{Tracked, tracked_none, tracked_more, told_more, told_end}
use Rattle.ranking.proofs.pass.pass.Goals as goal

at_most : (b : Bool) → bit b ≤ 1
at_most true = omega arith
at_most false = omega arith

pub loop-t-init : goal.loop-t-init
loop-t-init g c =
    let r = g.R.Ranking.order c.args.ranking.now in
    let s = c.codes-codes.result.now in
    let st = c.new-stack.result in
    let none : [] ≡ st = sym c.new-stack.ensures in (
      refl,
      subst (λ (zs : List ℕ). once zs ≡ true) none refl,
      subst (λ (zs : List ℕ). coded zs ≡ true) none refl,
      λ f h. subst (λ (n : ℕ). n ≤ 0) (sym (get_or-replicate 64 f 0 0 h)) (omega arith),
      λ f h. subst (λ (n : ℕ). Tracked r r nothing s st 0 n f) (sym (get_or-replicate 64 f 0 0 h))
          (tracked_none r nothing s st f (ap (λ (zs : List ℕ). has (take (suc f) zs)) none)),
      refl,
    )

pub loop-t-preserved : goal.loop-t-preserved
loop-t-preserved g c =
    let r₀ = g.R.Ranking.order c.args.ranking.now in
    let r = g.R.Ranking.order c.loop-t.ranking in
    let r' = g.R.Ranking.order c.tell.new.self in
    let orders = g.met.R.Ranking.orders c.tell.new.self in
    let s = c.codes-codes.result.now in
    let i = c.loop-t.t in
    let x = get_or s i 0 in
    let st = c.loop-t.stack in
    let st' = c.refer.new.self in
    let after = c.refer.ensures.settled in
    let inv = c.loop-t.invariant in
    let h = c.loop-t-test.true in
    let small : i < 65535 = omega (arith, c.codes-codes.ensures.few) in
    let places = subst (λ (z : List ℕ). NextPlaces z 0 c.next_places-after.result) (sym c.codes-codes.ensures.codes) c.next_places-after.ensures in
    let Tell : ℕ → ℕ → RankingModel = λ p n. told r (telling x p n) in
    let moves : r' ≡ Tell (suc i) (next_place (suc i) x (drop (suc i) s)) =
    c.tell.ensures ∙ ap (λ (p : ℕ). Tell p (get_or c.next_places-after.result i 0)) (add-one i) ∙
    ap (λ (n : ℕ). Tell (suc i) n) (places i (omega arith) h) in (
      c.type_inv.row,
      subst (λ (zs : List ℕ). once zs ≡ true) (sym after) (once_take 64 (restacked (r' []) x st) (once_restacked (r' []) x st inv.1)),
      subst (λ (zs : List ℕ). coded zs ≡ true) (sym after) (coded_take 64 (restacked (r' []) x st) (coded_restacked (r' []) x st (omega (arith, c.type_inv.codes i)) inv.2)),
      λ f l. omega (arith, c.refer.ensures.charged f l, at_most (not (has (take (suc f) st) x)), inv.3 f l),
      λ f l. subst (λ (k : ℕ). Tracked r₀ r' nothing s st' k (get_or c.refer.new.row f 0) f) (sym (add-one i))
          (tracked_more r₀ r r' nothing s st st' i (get_or c.loop-t.row f 0) (get_or c.refer.new.row f 0) f orders inv.1 inv.2 h small moves (c.refer.ensures.charged f l) after l (inv.4 f l)),
      subst (λ (k : ℕ). told_all r' (tellings k (drop k s)) ≡ told_all r₀ (tellings 0 s)) (sym (add-one i)) (sym (told_more r r' s i h small moves) ∙ inv.5),
    )

pub returns : goal.returns
returns g c =
    let r₀ = g.R.Ranking.order c.args.ranking.now in
    let r = g.R.Ranking.order c.loop-t.ranking in
    let s = c.codes-codes.result.now in
    let i = c.loop-t.t in
    let inv = c.loop-t.invariant in
    let end : i ≡ length s = omega (arith, c.loop-t.auto.t-end, c.loop-t-test.false) in
    let row : c.loop-t.row ≡ pass_row r₀ s =
    fill_by_all (λ k. own_faults r₀ (k + 1) s) c.loop-t.row 64 0 inv.0
    (λ k l. (inv.4 k l).counts ∙ ap (λ (j : ℕ). faults s (held_on (own_from r₀ (suc k) nothing) s) j) end ∙ ap (λ (f : ℕ). own_faults r₀ f s) (sym (add-one k))) in
    record {
      faults = row ∙ ap (pass_row r₀) c.codes-codes.ensures.codes;
      told = sym (told_end r s i c.loop-t-test.false) ∙ inv.5 ∙ ap (λ (z : List ℕ). told_all r₀ (tellings 0 z)) c.codes-codes.ensures.codes;
    }
