use Rattle.std.proofs.Common.{◌≡◌, ℕ, List, length, ap, ◌∙◌, arith, rules, length-take}
use Rattle.names.specs.Lists.{in_list, listed}
use Rattle.recording.specs.Writing.{encoded, named_by, recording, written}
use Rattle.evaluator.specs.Strings.{string}
use Rattle.evaluator.proofs.Stores.{store_loads}
use Rattle.evaluator.proofs.Trial.store.Goals as goal

pub returns : goal.returns
returns g c =
    let bits = g.N.Name.bits in
    let kind = g.N.Name.kind in
    let width = g.N.Name.width in
    let records = in_list c.args.list.now.memory.now c.args.list.now.count in
    let ns = listed bits c.args.list.now.memory.now c.args.list.now.count in
    let s = string c.args.self.now in
    let old = c.args.out.now in
    let answer : c.encode.result ≡ encoded width ns s (length old) = c.encode.ensures.answer ∙ ap (λ (cs : List ℕ). encoded width ns cs (length old)) (search rules) in
    let bytes : c.encode.new.out ≡ written c.encode.result (recording kind width (named_by ns s)) old =
    c.encode.ensures.out ∙ ap (λ (cs : List ℕ). written c.encode.result (recording kind width (named_by ns cs)) old) (search rules) in
    record {
      answer = answer;
      out = bytes;
      loads = store_loads bits kind width g.met.N.Name.mark g.met.N.Name.some g.met.N.Name.fits records s
          (omega (arith, length-take c.args.self.now.len c.args.self.now.codes, c.args.self.now.few)) old c.encode.new.out c.encode.result answer bytes;
    }
