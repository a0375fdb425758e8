use Rattle.std.proofs.Common.{◌≡◌, ℕ, cond, length, is_ok, Err, Result, sym, ap, ◌∙◌, arith}
use Rattle.std.proofs.lemmas.Result.{err_from_is_err_and}
use Rattle.recording.specs.declared.fault.LoadFault.{LoadFault}
use Rattle.recording.specs.Coding.{names_of, names_recorded}
use Rattle.names.specs.Lists.{limit_of}
use Rattle.evaluator.specs.Histories.{loaded}
use Rattle.evaluator.proofs.Loads.{refused_string, loaded_few, loaded_length, loaded_pages}
use Rattle.evaluator.proofs.Stores.{load_stores}
use Rattle.evaluator.proofs.Trial.load.Goals as goal

pub returns-in_err-count : goal.returns-in_err-count
returns-in_err-count g c =
    let kind = g.N.Name.kind in
    let width = g.N.Name.width in
    let places = length c.args.list.now.memory.now in
    let bytes = c.args.bytes.now in
    let p = err_from_is_err_and c.from_residual.result c.from_residual.ensures.1 in
    let same : c.from_residual.result ≡ c.decode.result = p.1 ∙ ap Err p.2 ∙ sym c.in_err-count.was in
    record {
      answer = same ∙ c.decode.ensures.answer;
      string = sym (refused_string kind width places bytes _ (sym c.decode.ensures.answer ∙ c.in_err-count.was));
      count = c.decode.ensures.count ∙
          ap (λ (r : Result ℕ LoadFault). cond (is_ok r) (length (names_of (limit_of places) (names_recorded kind width bytes))) 0) (sym same);
      memory = c.decode.ensures.memory;
      lender = c.decode.ensures.lender;
      counts = rw p.1 tt;
      stores = rw p.1 tt;
    }

pub returns : goal.returns
returns g c =
    let kind = g.N.Name.kind in
    let width = g.N.Name.width in
    let memory = c.args.list.now.memory.now in
    let bytes = c.args.bytes.now in
    let n = c.in_ok-count.count in
    let coded = c.in_ok-count.ensures.codes in
    let answer = sym c.decode.ensures.answer ∙ c.in_ok-count.was in
    let count = c.in_ok-count.ensures.count in
    record {
      answer = sym answer;
      string = sym (ap loaded coded);
      counts = (
        loaded_length kind width (length memory) bytes n _ answer coded,
        loaded_pages kind width (length memory) bytes c.decode.new.list.count _ coded count,
      );
      count = count;
      memory = c.decode.ensures.memory;
      lender = c.decode.ensures.lender;
      stores = load_stores g.N.Name.bits g.N.Name.named kind width g.met.N.Name.mark g.met.N.Name.some g.met.N.Name.back memory
          c.decode.new.list.memory.now c.decode.new.list.count n bytes _ (λ i h. omega (arith, c.type_inv.bytes i)) answer coded c.decode.ensures.memory count;
    }

pub invariant_of-self-2 : goal.invariant_of-self-2
invariant_of-self-2 g c = record {
  few = loaded_few g.N.Name.kind g.N.Name.width (length c.args.list.now.memory.now) c.args.bytes.now c.in_ok-count.count
      _ (sym c.decode.ensures.answer ∙ c.in_ok-count.was) c.in_ok-count.ensures.codes;
}
