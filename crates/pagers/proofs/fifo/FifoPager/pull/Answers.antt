-- The queue after a pull. Assumes nothing.
use Rattle.std.proofs.Common.{◌≡◌, ℕ, List, [], length, set, sym, refl, ap, ◌∙◌, ◌+◌, ◌<◌, ◌≤◌, ◌⊎◌, inl, inr, cond, ltb, min, arith, length-set}
use Rattle.std.proofs.lemmas.Bool.{cases_lt, lt-ltb, le-ltb}
use Rattle.std.proofs.lemmas.List.{map-set}
use Rattle.paging.specs.Queues.{once, coded}
use Rattle.paging.proofs.Queues.{fifo_in, fifo_miss, once_in, coded_in}
use Rattle.pagers.specs.Tables.{codes_of, code_of, queue}
use Rattle.pagers.specs.Pagers.{queue_of}
use Rattle.pagers.specs.declared.fifo.Frame.{Frame}
use Rattle.pagers.specs.Hands.{queue_pull, hand_on}
use Rattle.pagers.proofs.fifo.FifoPager.pull.Goals as goal

stored : (fs : List Frame) (i : ℕ) (f : Frame) (c : ℕ) → f.code ≡ c → codes_of (set fs i f) ≡ set (codes_of fs) i c
stored fs i f c e = map-set code_of fs i f ∙ ap (λ (x : ℕ). set (codes_of fs) i x) e

-- what the code does with the count
grown : (used room : ℕ) → used ≤ room → min (used + 1) room ≡ cond (ltb used room) (used + 1) used
grown used room l = go (cases_lt used room)
  where
    go : (used < room) ⊎ (room ≤ used) → min (used + 1) room ≡ cond (ltb used room) (used + 1) used
    go (inl h) = rw (lt-ltb used room h) (omega arith)
    go (inr h) = rw (le-ltb used room h) (omega arith)

pub invariant_of-self : goal.invariant_of-self
invariant_of-self c =
    let s = c.args.self.now in
    let x = c.args.code in
    let n = c.min-self.result in
    let h = c.onward-self.result in
    let e = stored s.frames s.hand c.load.new.self x c.load.ensures in
    let q : queue n h (codes_of (set s.frames s.hand c.load.new.self)) ≡ fifo_in s.room x (queue_of s) =
    ap (queue n h) e ∙ queue_pull (codes_of s.frames) s.room s.used s.hand (omega (arith, s.wide, s.most)) s.within s.at s.filling x n h (c.min-self.ensures ∙ grown s.used s.room s.within) c.onward-self.ensures in
    let m = hand_on (codes_of s.frames) s.room s.used s.hand (omega (arith, s.wide, s.most)) s.within s.at s.filling x n h (c.min-self.ensures ∙ grown s.used s.room s.within) c.onward-self.ensures in record {
      most = s.most;
      within = m.0;
      at = m.1;
      filling = m.2;
      wide = ap length e ∙ simp length-set s.wide;
      apart = ap once q ∙ once_in s.room x (queue_of s) s.apart c.requires;
      low = ap coded q ∙ coded_in s.room x (queue_of s) s.low (omega arith);
    }

pub returns : goal.returns
returns c =
    let s = c.args.self.now in
    let x = c.args.code in
    let n = c.min-self.result in
    let h = c.onward-self.result in
    let e = stored s.frames s.hand c.load.new.self x c.load.ensures in
    record {
      queue = ap (queue n h) e ∙ queue_pull (codes_of s.frames) s.room s.used s.hand (omega (arith, s.wide, s.most)) s.within s.at s.filling x n h (c.min-self.ensures ∙ grown s.used s.room s.within) c.onward-self.ensures ∙ sym (fifo_miss s.room x [] (queue_of s) c.requires);
      room = refl;
    }
