-- The plan of a pager, place by place. Assumes nothing.
use Rattle.std.proofs.Common.{◌≡◌, ℕ, zero, suc, ◌+◌, ◌-◌, ◌<◌, ◌≤◌, Bool, true, false, not, ◌&&◌, ◌⊎◌, List, [], ◌++◌, length, take, drop, sym, refl, ap, ◌∙◌, subst, inl, inr, append-nil, arith, length-append}
use mathlib.Core.Path.{fun_ext}
use Rattle.std.proofs.lemmas.List.{nil_from_length}
use Rattle.std.proofs.lemmas.Bool.{lt-ltb, le-ltb, cases_lt}
use Rattle.paging.specs.Pages.{bit, total, codes, Pages, nothing, size}
use Rattle.paging.specs.Schedules.{pulled}
use Rattle.paging.specs.Models.{PagerModel, served, after, held_on}
use Rattle.paging.proofs.Sets.{total_same}
use Rattle.paging.proofs.Balance.{pulled_balance}
use Rattle.output.specs.declared.Output.{Output}
use Rattle.output.specs.Outputs.{HasRoom, Writes}
use Rattle.output.proofs.Outputs.{writes_more, room_after}
use Rattle.pager.specs.Prepaging.{filled}
use Rattle.pager.specs.Plans.{less, words, moves, plan_words}
use Rattle.pager.proofs.Places.{after_step}
use Rattle.pager.proofs.Words.{words_same, words_long, plan_more, plan_grow}

-- what is held of the codes
abbrev pub clip : Pages → Pages
clip M = filled nothing codes M

pub clip_at : (M : Pages) (c : ℕ) → c < codes → clip M c ≡ M c
clip_at M c l = rw (lt-ltb c codes l)

pub clip_size : (M : Pages) → size (clip M) ≡ size M
clip_size M = total_same codes (λ c. bit (clip M c)) (λ c. bit (M c)) (λ c l. ap bit (clip_at M c l))

pub clip_same : (M N : Pages) → ((c : ℕ) → c < codes → M c ≡ N c) → clip M ≡ clip N
clip_same M N e = fun_ext (λ c. go c (cases_lt c codes))
  where
    go : (c : ℕ) → (c < codes) ⊎ (codes ≤ c) → clip M c ≡ clip N c
    go c (inl l) = rw (lt-ltb c codes l) (e c l)
    go c (inr g) = rw (le-ltb c codes g)

pub moves_clip : (p : ℕ) (M N : Pages) → moves p (clip M) (clip N) ≡ moves p M N
moves_clip p M N =
    ap (λ (r : List ℕ). r ++ words p 1 (less (clip N) (clip M)) codes) (words_same p 0 (less (clip M) (clip N)) (less M N) codes (each M N)) ∙
    ap (λ (r : List ℕ). words p 0 (less M N) codes ++ r) (words_same p 1 (less (clip N) (clip M)) (less N M) codes (each N M))
  where
    each : (A B : Pages) (c : ℕ) → c < codes → less (clip A) (clip B) c ≡ less A B c
    each A B c l = rw (lt-ltb c codes l)

-- a sum that is nothing has nothing in it
total_each : (n : ℕ) (g : ℕ → ℕ) → total n g ≡ 0 → (c : ℕ) → c < n → g c ≡ 0
unfolding total
total_each zero g e c l = absurd (omega arith)
total_each (suc n) g e c l = go (cases_lt c n) (total_each n g (omega arith) c)
  where
    go : (c < n) ⊎ (n ≤ c) → (c < n → g c ≡ 0) → g c ≡ 0
    go (inl less) r = r less
    go (inr more) _ = let q : c ≡ n = omega arith in rw q (omega arith)

-- where none is pulled and as many are held, nothing moved
pub nothing_moved : (M N : Pages) → pulled M N ≡ 0 → size N ≡ size M → (c : ℕ) → c < codes → M c ≡ N c
nothing_moved M N none same c l =
    let back : pulled N M ≡ 0 = omega (arith, pulled_balance M N) in
    both (M c) (N c) (total_each codes (λ d. bit (N d && not (M d))) none c l) (total_each codes (λ d. bit (M d && not (N d))) back c l)
  where
    both : (a b : Bool) → bit (b && not a) ≡ 0 → bit (a && not b) ≡ 0 → a ≡ b
    both true true p q = refl
    both true false p q = absurd (omega arith)
    both false true p q = absurd (omega arith)
    both false false p q = refl

no_moves : (p : ℕ) (M N : Pages) → pulled M N ≡ 0 → size N ≡ size M → length (moves p M N) ≡ 0
no_moves p M N none same =
    rw (length-append (words p 0 (less M N) codes) (words p 1 (less N M) codes))
    (omega (arith, words_long p 0 (less M N) codes, words_long p 1 (less N M) codes, pulled_balance M N))

-- one place
module _ (b m m' : PagerModel) (s : List ℕ) (t : ℕ) (here : t < length s) (at : m ≡ after b s t)
    (served_is : m' ≡ served m (take (length s - t) (drop t s))) where
  on : plan_words (held_on b s) (t + 1) ≡ plan_words (held_on b s) t ++ moves (t + 1) (m []) (m' [])
  on =
      let F : PagerModel → Pages = λ k. k [] in
      plan_more (held_on b s) t ∙
      ap (λ (M : Pages). plan_words (held_on b s) t ++ moves (t + 1) M (held_on b s (t + 1))) (sym (ap F at)) ∙
      ap (λ (N : Pages). plan_words (held_on b s) t ++ moves (t + 1) (m []) N) (sym (ap F (after_step b m m' s t here at served_is)))

  module _ (M N : Pages) (was : M ≡ clip (m [])) (is : N ≡ clip (m' [])) where
    same_moves : moves (t + 1) M N ≡ moves (t + 1) (m []) (m' [])
    same_moves =
        ap (λ (A : Pages). moves (t + 1) A N) was ∙ ap (λ (A : Pages). moves (t + 1) (clip (m [])) A) is ∙ moves_clip (t + 1) (m []) (m' [])

    pub plan_room : {a p : Output ℕ} → HasRoom a (length (plan_words (held_on b s) (length s))) → Writes a (plan_words (held_on b s) t) p →
        HasRoom p (length (moves (t + 1) M N))
    plan_room {a} {p} room wrote =
        let i : t + 1 + (length s - (t + 1)) ≡ length s = omega arith in
        let g : length (plan_words (held_on b s) (t + 1)) ≤ length (plan_words (held_on b s) (length s)) =
        rw i at (plan_grow (held_on b s) (t + 1) (length s - (t + 1))) in
        room_after (length (moves (t + 1) M N)) (omega (arith, room, ap length on, length-append (plan_words (held_on b s) t) (moves (t + 1) (m []) (m' [])), ap length same_moves)) wrote

    pub plan_wrote : {a p q : Output ℕ} → Writes a (plan_words (held_on b s) t) p → Writes p (moves (t + 1) M N) q → Writes a (plan_words (held_on b s) (t + 1)) q
    plan_wrote {a} {p} {q} wrote more =
        subst (λ (ws : List ℕ). Writes a ws q) (sym on)
        (writes_more wrote (subst (λ (ws : List ℕ). Writes p ws q) same_moves more))

  pub plan_still : pulled (m []) (m' []) ≡ 0 → size (m' []) ≡ size (m []) → plan_words (held_on b s) (t + 1) ≡ plan_words (held_on b s) t
  plan_still none same =
      on ∙ ap (λ (r : List ℕ). plan_words (held_on b s) t ++ r) (nil_from_length (moves (t + 1) (m []) (m' [])) (no_moves (t + 1) (m []) (m' []) none same)) ∙
      append-nil (plan_words (held_on b s) t)
