-- Items written through an output, one text after another. Assumes nothing.
use Rattle.std.proofs.Common.{ℕ, ◌+◌, List, [], ◌++◌, length, ap, ◌∙◌, refl, sym, add-zero, arith}
use Rattle.std.proofs.lemmas.List.{length-append}
use Rattle.output.specs.declared.Output.{Output}
use Rattle.output.specs.Outputs.{HasRoom, Writes}
use Rattle.output.proofs.Overlays.{overlay_none, overlay_append, length_overlay}

-- nothing was written
pub writes_none : {T : Type 0} (o : Output T) → Writes o [] o
writes_none o =
    record {
      wrote = record { items = sym (overlay_none o.memory.now o.count); ends = sym (add-zero o.count) };
      lender = refl;
    }

-- some items after others
pub writes_more : {T : Type 0} {a b c : Output T} {ys zs : List T} → Writes a ys b → Writes b zs c → Writes a (ys ++ zs) c
writes_more {a = a} {ys = ys} {zs = zs} v w =
    record {
      wrote = record {
        items = w.wrote.items ∙ rw (v.wrote.items, v.wrote.ends) (overlay_append a.memory.now a.count ys zs a.inside);
        ends = omega (arith, w.wrote.ends, v.wrote.ends, length-append ys zs);
      };
      lender = w.lender ∙ v.lender;
    }

-- where n more fit behind some items, they fit once those are written
pub room_after : {T : Type 0} {a b : Output T} {ys : List T} (n : ℕ) → HasRoom a (length ys + n) → Writes a ys b → HasRoom b n
room_after {a = a} {ys = ys} n h w =
    omega (arith, h, w.wrote.ends, ap length w.wrote.items, length_overlay a.memory.now a.count ys (omega (arith, h)))
