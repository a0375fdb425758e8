-- What FIFO does with a row. Assumes nothing.
use Rattle.std.proofs.Common.{◌≡◌, ℕ, false, List, [], ◌∷◌, get_or, drop, sym, refl, ap, ◌∙◌, arith, rules}
use Rattle.paging.specs.Pages.{has}
use Rattle.paging.specs.Schedules.{pulled}
use Rattle.paging.specs.Policies.{fifo_step, fifo}
use Rattle.paging.proofs.Sets.{none_pulled}
use Rattle.paging.proofs.Queues.{fifo_in, fifo_hit, fifo_miss, fifo_in_pulled}
use Rattle.pagers.specs.Pagers.{queue_of}
use Rattle.pagers.proofs.Serves.{row_is, stepped}
use Rattle.pagers.proofs.fifo.serve.FifoPagerPager.serve.Goals as goal

pub returns-in_default-clause-answer : goal.returns-in_default-clause-answer
returns-in_default-clause-answer c = sym (none_pulled (has (queue_of c.args.self.now)))

pub returns-then-has : goal.returns-then-has
returns-then-has c =
    let f = c.args.self.now.room in
    let q = queue_of c.args.self.now in
    let x = c.in-Some.field-0.now in
    let row = row_is c.args.row.now x (sym c.in-Some.ensures.value) in
    record {
      moves = stepped (fifo_step f) has q q _ _ row (sym (fifo_hit f x (drop 1 c.args.row.now) q (sym c.has.ensures ∙ c.if-has.true)));
      frames = refl;
      answer = sym (none_pulled (has q));
    }

pub returns : goal.returns
returns c =
    let f = c.args.self.now.room in
    let q = queue_of c.args.self.now in
    let p = queue_of c.pull.new.self in
    let x = c.in-Some.field-0.now in
    let row = row_is c.args.row.now x (sym c.in-Some.ensures.value) in
    let out : has q x ≡ false = sym c.has.ensures ∙ c.if-has.false in
    let e : p ≡ fifo_in f x q = c.pull.ensures.queue ∙ ap (λ (y : ℕ). fifo_step f (y ∷ []) q) (search rules) ∙ fifo_miss f x [] q out in
    record {
      moves = ap (λ (n : ℕ). fifo n p) c.pull.ensures.room ∙ stepped (fifo_step f) has p q _ _ row (e ∙ sym (fifo_miss f x (drop 1 c.args.row.now) q out));
      frames = c.pull.ensures.room;
      answer = sym (ap (λ (r : List ℕ). pulled (has q) (has r)) e ∙ fifo_in_pulled f x q (omega (arith, c.type_inv.row 0, ap (λ (r : List ℕ). get_or r 0 0) row)) out);
    }
