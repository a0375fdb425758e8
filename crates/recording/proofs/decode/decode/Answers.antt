-- A refused layout leaves no name, and the codes stand in front.
use Rattle.std.proofs.Common.{◌≤◌, length, sym, ap, ◌∙◌, rules}
use Rattle.std.proofs.lemmas.Result.{err_from_is_err_and}
use Rattle.recording.proofs.Progress.{refused_layout, written_in_front}
use Rattle.recording.proofs.decode.decode.Goals as goal

pub returns-in_err-count : goal.returns-in_err-count
returns-in_err-count g c =
    let p = err_from_is_err_and c.from_residual.result c.from_residual.ensures.1 in
    let q = refused_layout g.N.Name.named g.N.Name.kind g.N.Name.width _ c.args.bytes.now c.args.list.now.memory.now c.args.codes.now _ (sym c.checked_layout.ensures ∙ c.in_err-count.was) in
    rw (p.1, p.2) (record { answer = q.0; codes = tt; named = tt; written = q.2; count = c.clear.ensures.count; memory = c.clear.ensures.memory ∙ q.1; lender = c.clear.ensures.lender })

pub returns-else-is_err-clause-written : goal.returns-else-is_err-clause-written
returns-else-is_err-clause-written g c =
    let low : c.in_ok-count.count ≤ length c.args.codes.now = search rules in
    written_in_front g.N.Name.kind g.N.Name.width _ _ c.args.bytes.now c.in_ok-count.count c.args.codes.now _ (sym c.checked_layout.ensures ∙ c.in_ok-count.was) (ap length c.clear.ensures.memory) low c.read_names-answer.ensures.written
