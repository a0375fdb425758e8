use Rattle.std.proofs.Common.{◌≡◌, ◌∙◌, ◌+◌, ◌<◌, rules, length, arith}
use Rattle.std.proofs.lemmas.Iterator.{YieldsList-from_slice}
use Rattle.std.proofs.lemmas.Iterator.Adapters.{fits_from_length, at_most_from_yields_List}
use Rattle.std.specs.List.{fold, sum_by}
use Rattle.listing.specs.declared.text.Row.{Row}
use Rattle.listing.specs.Texts.{row_text}
use Rattle.listing.proofs.Tables.{length_lines}
use Rattle.listing.proofs.table.lines_len.Goals as goal

pub returns-clause-value : goal.returns-clause-value
returns-clause-value c =
    let e : c.sum.result ≡ sum_by (λ (r : Row). length (row_text r)) c.args.table.now.rows.now = search rules in
    e ∙ length_lines c.args.table.now.rows.now

-- at most 64 lines, each of at most 105 bytes
pub returns-clause-bound : goal.returns-clause-bound
returns-clause-bound c =
    let p = c.sum.ensures.runs tt in
    let small : fold (λ a x. a + x) 0 p.0.items < 6721 =
    fits_from_length _ _ 64 6721 (at_most_from_yields_List (YieldsList-from_slice c.args.table.now.rows.now cc) c.args.table.now.few)
    c.map.ensures.closure (omega arith) (λ x r q k. search rules) p.0 p.0.seen p.1 in
    omega (arith, small, p.3)
