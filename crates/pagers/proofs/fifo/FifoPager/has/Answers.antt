-- One frame after another. Assumes nothing.
use Rattle.std.proofs.Common.{◌≡◌, ℕ, ◌+◌, ◌<◌, ◌≤◌, Bool, ◌||◌, eqb, List, [], length, get_or, take, drop, sym, refl, ap, ◌∙◌, arith}
use lib.ListN.{length-map}
use Rattle.std.proofs.lemmas.List.{at_drop_more, at_drop_all, get_or-map, take-map}
use Rattle.std.proofs.lemmas.Bool.{eq-eqb, ne_eqb}
use Rattle.paging.specs.Pages.{Pages, has}
use Rattle.pagers.specs.Tables.{codes_of, code_of}
use Rattle.pagers.specs.Pagers.{queue_of}
use Rattle.pagers.specs.declared.fifo.FifoPager.{FifoPager}
use Rattle.pagers.specs.declared.fifo.Frame.{Frame}
use Rattle.pagers.specs.Hands.{queue_has}
use Rattle.pagers.proofs.fifo.FifoPager.has.Goals as goal

there : (s : FifoPager) (code : ℕ) → has (queue_of s) code ≡ has (codes_of (take s.used s.frames)) code
there s code =
    ap (λ (N : Pages). N code) (queue_has (codes_of s.frames) s.room s.used s.hand (omega (arith, s.wide, s.most)) s.within s.at s.filling) ∙
    ap (λ (zs : List ℕ). has zs code) (take-map code_of s.used s.frames)

module _ (code : ℕ) (frames : List Frame) (i : ℕ) where
  abbrev find : List ℕ → Bool
  find xs = has xs code

  step : i < length frames → find (drop i (codes_of frames)) ≡ (eqb (get_or frames i (record { code = 0 })).code code || find (drop (i + 1) (codes_of frames)))
  step h =
      at_drop_more find (codes_of frames) i 0 (omega (arith, length-map frames code_of)) ∙
      ap (λ (x : ℕ). eqb x code || find (drop (i + 1) (codes_of frames))) (get_or-map code_of frames i (record { code = 0 }) 0 h)

  done : length frames ≤ i → find (drop i (codes_of frames)) ≡ find []
  done h = at_drop_all find (codes_of frames) i (omega (arith, length-map frames code_of))

pub loop-frame-init : goal.loop-frame-init
loop-frame-init c = refl

pub returns-then-frame-code : goal.returns-then-frame-code
returns-then-frame-code c =
    let s = c.args.self.now in
    let code = c.args.code in
    let t = eq-eqb _ code c.if-frame-code.true in
    sym (there s code ∙ c.loop-frame.invariant ∙ step code (take s.used s.frames) c.loop-frame.frame-index c.loop-frame-test.true ∙ rw t)

pub loop-frame-preserved : goal.loop-frame-preserved
loop-frame-preserved c =
    let s = c.args.self.now in
    let code = c.args.code in
    let t = ne_eqb _ code c.if-frame-code.false in
    c.loop-frame.invariant ∙ step code (take s.used s.frames) c.loop-frame.frame-index c.loop-frame-test.true ∙ rw t

pub returns : goal.returns
returns c =
    let s = c.args.self.now in
    let code = c.args.code in
    sym (there s code ∙ c.loop-frame.invariant ∙ done code (take s.used s.frames) c.loop-frame.frame-index (omega (arith, c.loop-frame-test.false)))
