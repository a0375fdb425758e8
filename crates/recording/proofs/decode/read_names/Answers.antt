-- Each turn reads one name, looks it up and writes its code.
use Rattle.std.proofs.Common.{◌≡◌, ◌<◌, length, refl, ap, ◌∙◌, arith}
use Rattle.std.proofs.lemmas.List.{set-get_or}
use Rattle.std.proofs.lemmas.Result.{err_from_is_err_and}
use Rattle.recording.specs.Writing.{all_named}
use Rattle.recording.proofs.Codes.{codes_stand}
use Rattle.recording.proofs.Progress.{turn_more, turn_refused, progress_codes, progress_answer, progress_written, progress_ended}
use Rattle.recording.proofs.decode.read_names.Goals as goal

pub returns-in_err-code : goal.returns-in_err-code
returns-in_err-code g c =
    let p = err_from_is_err_and c.from_residual.result c.from_residual.ensures.1 in
    let turn : c.loop-i.i < length c.args.codes.now = omega arith in
    let q = turn_refused g.N.Name.bits g.N.Name.named g.N.Name.width g.met.N.Name.back _ _ _ _ _ _ _ _ _ c.loop-i.invariant.so turn _ c.loop-i.invariant.bytes _ _ c.next_code.ensures.memory c.next_code.ensures.count _ _ c.next_code.ensures.answer c.in_err-code.was in
    rw (p.1, p.2) (record { answer = q.0; codes = tt; named = tt; written = set-get_or _ _ _ ∙ q.2; count = q.1.counts; memory = q.1.records; lender = c.next_code.ensures.lender ∙ c.loop-i.invariant.lender })

pub loop-i-preserved : goal.loop-i-preserved
loop-i-preserved g c =
    let turn : c.loop-i.i < length c.args.codes.now = omega arith in
    record {
      so = turn_more g.N.Name.bits g.N.Name.named g.N.Name.width g.met.N.Name.back _ _ _ _ _ _ _ _ _ c.loop-i.invariant.so turn _ c.loop-i.invariant.bytes _ _ c.next_code.ensures.memory c.next_code.ensures.count _ _ _ _ c.next_code.ensures.at c.next_code.ensures.answer c.in_ok-code.was refl;
      bytes = c.next_code.ensures.bytes ∙ c.loop-i.invariant.bytes;
      lender = c.next_code.ensures.lender ∙ c.loop-i.invariant.lender;
    }

pub returns : goal.returns
returns g c =
    let is : c.loop-i.i ≡ length c.args.codes.now = omega arith in
    let q = progress_ended g.N.Name.bits g.N.Name.named g.N.Name.width _ _ _ _ _ _ _ _ _ c.loop-i.invariant.so is in
    let codes = progress_codes g.N.Name.bits g.N.Name.named g.N.Name.width _ _ _ _ _ _ _ _ _ c.loop-i.invariant.so is in
    record {
      answer = progress_answer g.N.Name.bits g.N.Name.named g.N.Name.width _ _ _ _ _ _ _ _ _ c.loop-i.invariant.so is;
      codes = codes;
      named = ap (λ n. all_named n c.loop-i.codes) q.counts ∙ (codes_stand _ _ _ codes).named;
      written = progress_written g.N.Name.bits g.N.Name.named g.N.Name.width _ _ _ _ _ _ _ _ _ c.loop-i.invariant.so is;
      count = q.counts;
      memory = q.records;
      lender = c.loop-i.invariant.lender;
    }
