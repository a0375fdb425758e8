use Rattle.std.proofs.Common.{◌≡◌, ◌+◌, ◌<◌, length, ◌∙◌, arith}
use Rattle.std.proofs.lemmas.List.FromFn.{fill_by_all}
use Rattle.std.proofs.lemmas.List.Edits.{fill_by_more}
use Rattle.paging.specs.Rankings.{last_told, next_told, untold}
use Rattle.ranking.specs.Stack.{pass_row}
use Rattle.ranking.specs.Tables.{last_order, next_order}
use Rattle.evaluator.specs.Strings.{string}
use Rattle.listing.specs.Listings.{row_of}
use Rattle.listing.proofs.Rows.{passed_at, dpmin_figures, row_made, same_pair}
use Rattle.listing.proofs.Tables.{no_row}
use Rattle.listing.proofs.figures.fill_rows.Goals as goal

pub loop-k-preserved : goal.loop-k-preserved
loop-k-preserved c =
    let s = string c.args.trial.now in
    let i = c.loop-k.k in
    let h : i < 64 = omega (arith, c.requires, c.loop-k-test.true) in
    let e = same_pair c.figures.result c.in_ok-dpmin.dpmin c.in_ok-dpmin.pulls _ _ c.in_ok-dpmin.was (c.figures.ensures ∙ dpmin_figures (i + 1) s (omega arith) (omega (arith, h))) in
    let lru : c.in_ok-lru.lru ≡ pass_row (last_order c.new.result) s = cc (c.in_ok-lru.was, c.faults.ensures) in
    let min : c.in_ok-min.min ≡ pass_row (next_order c.new-2.result) s = cc (c.in_ok-min.was, c.faults-2.ensures) in
    let made = row_made s (i + 1) _ _ c.in_ok-dpmin.dpmin c.in_ok-dpmin.pulls
    (passed_at (last_order c.new.result) (last_told untold) s c.in_ok-lru.lru i lru c.new.ensures h)
    (passed_at (next_order c.new-2.result) (next_told untold) s c.in_ok-min.min i min c.new-2.ensures h)
    e.0 e.1 in
    rw made (fill_by_more (λ k. row_of s (k + 1)) c.loop-k.rows i no_row (omega (arith, c.loop-k-test.true, c.loop-k.auto.rows)) c.loop-k.invariant)

pub returns-clause-rows : goal.returns-clause-rows
returns-clause-rows c =
    fill_by_all (λ k. row_of (string c.args.trial.now) (k + 1)) c.loop-k.rows (length c.args.rows.now) no_row c.loop-k.auto.rows
    (λ j h. c.loop-k.invariant j (omega (arith, h, c.loop-k-test.false)))
