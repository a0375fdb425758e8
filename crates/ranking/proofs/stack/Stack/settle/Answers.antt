use Rattle.std.proofs.Common.{◌≡◌, ℕ, List, [], ◌∷◌, ◌++◌, length, drop, ap, sym, ◌∙◌, arith, length-append, length-drop}
use Rattle.std.proofs.lemmas.List.{take_at, take_all, take_more_set, length-take-le}
use Rattle.ranking.specs.Stack.{restacked}
use Rattle.ranking.proofs.Settles.{room, full}
use Rattle.ranking.proofs.stack.Stack.settle.Goals as goal
use Rattle.ranking.proofs.stack.Stack.settle.Goals.{After-restack}
use Rattle.ranking.proofs.stack.Stack.settle.Given.{Over}

-- the pages are as many as before
as_many : (g : Over) (c : After-restack g) → length c.restack.new.pages ≡ c.self.inside.depth
as_many g c = c.restack.auto.pages ∙ length-take-le _ _ (omega (arith, c.self.told, c.self.invariant))

pub returns-then-depth-lt64 : goal.returns-then-depth-lt64
returns-then-depth-lt64 g c =
    let xs = c.restack.new.pages in
    let depth = c.self.inside.depth in
    let rest = drop depth c.self.inside.pages in
    let u = restacked (g.R.Ranking.order c.args.ranking.now []) c.args.code c.args.self.now in
    let long = as_many g (goal.at.returns-then-depth-lt64 g c).After-restack in
    take_more_set (xs ++ rest) depth c.in-Some.page (simp (length-append, length-drop) (omega (arith, long, c.self.told))) ∙ ap (λ (zs : List ℕ). zs ++ c.in-Some.page ∷ []) (take_at xs rest depth long)
    ∙ room xs u c.in-Some.page (c.in-Some.ensures ∙ ap (restacked (g.R.Ranking.order c.args.ranking.now []) c.args.code) c.self.view_is) (omega (arith, long))

pub returns-else-depth-lt64 : goal.returns-else-depth-lt64
returns-else-depth-lt64 g c =
    let long = as_many g (goal.at.returns-else-depth-lt64 g c).After-restack in
    let u = restacked (g.R.Ranking.order c.args.ranking.now []) c.args.code c.args.self.now in
    take_at c.restack.new.pages _ _ long ∙ full c.restack.new.pages u c.in-Some.page (c.in-Some.ensures ∙ ap (restacked (g.R.Ranking.order c.args.ranking.now []) c.args.code) c.self.view_is) (omega (arith, long, c.self.invariant))

pub returns-in_default : goal.returns-in_default
returns-in_default g c =
    let long = as_many g (goal.at.returns-in_default g c).After-restack in
    let o = g.R.Ranking.order c.args.ranking.now [] in
    let u = restacked o c.args.code c.args.self.now in
    let e : c.restack.new.pages ≡ u = c.in_default.ensures ∙ ap (restacked o c.args.code) c.self.view_is in
    take_at c.restack.new.pages _ _ long ∙ e ∙ sym (take_all 64 u (omega (arith, ap length e, long, c.self.invariant)))
