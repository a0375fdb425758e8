use Rattle.std.proofs.Common.{◌+◌, length, get_or, take, ap, arith}
use Rattle.std.proofs.lemmas.List.{length-append}
use Rattle.listing.specs.Listings.{lines}
use Rattle.listing.specs.Texts.{row_text}
use Rattle.listing.proofs.Tables.{no_row, lines_none, lines_more, lines_front}
use Rattle.output.proofs.Outputs.{writes_none, writes_more, room_after}
use Rattle.listing.proofs.table.put_lines.Goals as goal

pub loop-row-init : goal.loop-row-init
loop-row-init c = rw lines_none (writes_none c.args.output.now)

pub put-requires : goal.put-requires
put-requires c =
    let rows = c.args.rows.now in
    let i = c.loop-row.row-index in
    let row = get_or rows i no_row in
    room_after {ys = lines (take i rows)} (length (row_text row))
    (omega (arith, c.requires, lines_front rows (i + 1), length-append (lines (take i rows)) (row_text row), ap length (lines_more rows i c.loop-row-test.true))) c.loop-row.invariant

pub loop-row-preserved : goal.loop-row-preserved
loop-row-preserved c = rw (lines_more c.args.rows.now c.loop-row.row-index c.loop-row-test.true) (writes_more c.loop-row.invariant c.put.ensures)
