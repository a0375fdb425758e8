use Rattle.std.proofs.Common.{◌≡◌, ℕ, Bool, true, false, ◌||◌, eqb, List, [], ◌∷◌, ◌++◌, get_or, take, sym, refl, ap, ◌∙◌}
use mathlib.Core.Path.{fun_ext}
use Rattle.std.proofs.lemmas.List.{take_more}
use Rattle.paging.specs.Pages.{has, with_page}
use Rattle.paging.proofs.Queues.{has_append}
use Rattle.evaluator.proofs.pages.different.Goals as goal

has_push : (xs : List ℕ) (x : ℕ) → with_page x (has xs) ≡ has (xs ++ x ∷ [])
has_push xs x = fun_ext (λ c. swap (eqb x c) (has xs c) ∙ sym (has_append xs (x ∷ []) c))
  where
    swap : (a b : Bool) → (a || b) ≡ (b || (a || false))
    swap true true = refl
    swap true false = refl
    swap false true = refl
    swap false false = refl

pub loop-code-preserved : goal.loop-code-preserved
loop-code-preserved c =
    let s = c.args.string.now in
    let t = c.loop-code.code-index in
    c.insert.ensures ∙ ap (with_page (get_or s t 0)) c.loop-code.invariant ∙ has_push (take t s) (get_or s t 0) ∙ ap has (sym (take_more s t 0 c.loop-code-test.true))
