-- What a ranking's pager does with a row. Assumes nothing.
use Rattle.std.proofs.Common.{◌≡◌, ℕ, ◌∷◌, sym, ap, ◌∙◌, arith}
use Rattle.std.proofs.lemmas.Grind.{common_steps}
use Rattle.paging.specs.Frames.{frames_of}
use Rattle.paging.specs.Sets.{pages}
use Rattle.paging.specs.Models.{stepping}
use Rattle.paging.specs.Rankings.{OwnRun, own_step, own_held}
use Rattle.paging.proofs.Sets.{none_pulled}
use Rattle.pagers.proofs.Admits.{own_moved}
use Rattle.pagers.proofs.Serves.{stepped}
use Rattle.pagers.proofs.ranked.serve.RankingPagerPager.serve.Goals as goal

pub returns-in_default-clause-answer : goal.returns-in_default-clause-answer
returns-in_default-clause-answer g c = sym (none_pulled (pages c.args.self.now.held.set))

pub returns : goal.returns
returns g c =
    let s = c.args.self.now in
    let q : OwnRun = record { ranking = g.R.Ranking.order s.ranking; count = s.serves; held = pages s.held.set } in
    let p : OwnRun = record { ranking = g.R.Ranking.order c.tell.new.self; count = c.later-self.result; held = pages c.admit.new.held.set } in
    let f = frames_of s.held.frames in
    let same = ap frames_of c.admit.ensures.frames in
    let e : p ≡ own_step f (c.in-Some.field-0-0.now ∷ c.in-Some.rest.now) q =
    own_moved (g.R.Ranking.order s.ranking) (g.R.Ranking.order c.tell.new.self) s.serves c.later-self.result _ f c.in-Some.field-0-0.now c.in-Some.rest.now
    (pages s.held.set) (pages c.admit.new.held.set) c.later-self.ensures (grind (arith, common_steps, c.next_place.ensures)) c.tell.ensures c.admit.ensures.set in
    record {
      moves = ap (λ (n : ℕ). stepping (own_step n) own_held p) same ∙ stepped (own_step f) own_held p q _ _ c.in-Some.ensures.cases.0 e;
      frames = same;
      answer = c.admit.ensures.answer;
    }
