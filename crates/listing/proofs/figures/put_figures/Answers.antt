use Rattle.std.proofs.Common.{◌≡◌, List, ap, ◌∙◌, rules}
use Rattle.evaluator.specs.Answers.{written}
use Rattle.evaluator.specs.Strings.{string}
use Rattle.listing.specs.declared.text.Row.{Row}
use Rattle.listing.specs.Listings.{row_count, rows_of, table_text}
use Rattle.listing.proofs.figures.put_figures.Goals as goal

pub returns-clause-bytes : goal.returns-clause-bytes
returns-clause-bytes c =
    let e : c.fill_rows.new.rows ≡ rows_of (string c.args.trial.now) (row_count (string c.args.trial.now)) = search rules in
    c.put_text.ensures.bytes ∙ ap (λ (rs : List Row). written (table_text rs) c.args.out.now) e
