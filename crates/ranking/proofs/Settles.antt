-- A page that is carried down the stack, turn by turn. Assumes nothing.
use Rattle.std.proofs.Common.{◌≡◌, ℕ, ◌+◌, ◌<◌, ◌≤◌, Bool, true, false, cond, ◌||◌, eqb, ◌⊎◌, inl, inr, List, [], ◌∷◌, ◌++◌, length, get_or, take, drop, set, sym, refl, ap, ◌∙◌, add-one, arith, length-append}
use Rattle.std.proofs.lemmas.List.{drop_more, set_split, take_all, take_at}
use Rattle.std.proofs.lemmas.Bool.{cases_Bool, eqb-true, false≢true}
use Rattle.paging.specs.Pages.{has}
use Rattle.ranking.specs.Stack.{sift, restacked}

module _ (o : ℕ → ℕ → Bool) (p : ℕ) (xs : List ℕ) (c i : ℕ) (u : List ℕ) (inv : take i xs ++ sift o p c (drop i xs) ≡ u) where
  module _ (h : i < length xs) where
    opened : u ≡ take i xs ++ sift o p c (get_or xs i 0 ∷ drop (i + 1) xs)
    opened = sym inv ∙ ap (λ (zs : List ℕ). take i xs ++ sift o p c zs) (drop_more xs i 0 h)

    pub found : eqb (get_or xs i 0) p ≡ true → set xs i c ≡ u
    found t = set_split xs i c h ∙ ap (λ (k : ℕ). take i xs ++ c ∷ drop k xs) (sym (add-one i)) ∙ sym (opened ∙ rw t)

-- the first 64 pages of the stack, with the page that is left over if there is room
pub room : (xs u : List ℕ) (c : ℕ) → xs ++ c ∷ [] ≡ u → length xs < 64 → xs ++ c ∷ [] ≡ take 64 u
room xs u c e l = e ∙ sym (take_all 64 u (rw (← e) (simp length-append (omega arith))))

pub full : (xs u : List ℕ) (c : ℕ) → xs ++ c ∷ [] ≡ u → length xs ≡ 64 → xs ≡ take 64 u
full xs u c e l = sym (ap (take 64) (sym e) ∙ take_at xs (c ∷ []) 64 l)

-- the page on top stays there, and nothing else moves
pub on_top : (o : ℕ → ℕ → Bool) (x : ℕ) (xs : List ℕ) → length xs ≤ 64 → has (take 1 xs) x ≡ true → xs ≡ take 64 (restacked o x xs)
on_top o x [] l h = absurd (false≢true h)
on_top o x (y ∷ ys) l h = go (cases_Bool (eqb y x)) h
  where
    go : (eqb y x ≡ true) ⊎ (eqb y x ≡ false) → (eqb y x || false) ≡ true → y ∷ ys ≡ take 64 (x ∷ cond (eqb y x) ys (sift o x y ys))
    go (inl b) _ =
        let e : cond (eqb y x) ys (sift o x y ys) ≡ ys = rw b refl in
        ap (λ (z : ℕ). z ∷ ys) (eqb-true y x b) ∙ sym (take_all 64 (x ∷ ys) l) ∙ ap (λ (zs : List ℕ). take 64 (x ∷ zs)) (sym e)
    go (inr b) r = absurd (false≢true (rw b at r))
