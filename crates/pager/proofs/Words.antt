-- The words of a plan, and words written over a list. Assumes nothing.
use Rattle.std.proofs.Common.{◌≡◌, ℕ, zero, suc, ◌+◌, ◌-◌, ◌<◌, ◌≤◌, Bool, true, false, cond, List, [], ◌∷◌, ◌++◌, length, sym, refl, ap, ◌∙◌, subst, append-nil, add-zero, add-one, arith, length-append}
use Rattle.output.specs.declared.Output.{Output}
use Rattle.output.specs.Outputs.{HasRoom, Writes}
use Rattle.output.proofs.Outputs.{writes_more, room_after}
use Rattle.paging.specs.Pages.{bit, total, Pages}
use Rattle.paging.specs.Schedules.{Holding}
use Rattle.pager.specs.Plans.{word, words, moves, plan_words}

-- one page more
pub words_more : (p k : ℕ) (P : Pages) (n : ℕ) → words p k P (n + 1) ≡ words p k P n ++ cond (P n) (word p k n ∷ []) []
unfolding words
words_more p k P n = rw add-one

pub words_yes : (p k : ℕ) (P : Pages) (n : ℕ) → P n ≡ true → words p k P (n + 1) ≡ words p k P n ++ word p k n ∷ []
words_yes p k P n e = words_more p k P n ∙ ap (λ (x : Bool). words p k P n ++ cond x (word p k n ∷ []) []) e

pub words_no : (p k : ℕ) (P : Pages) (n : ℕ) → P n ≡ false → words p k P (n + 1) ≡ words p k P n
words_no p k P n e = words_more p k P n ∙ ap (λ (x : Bool). words p k P n ++ cond x (word p k n ∷ []) []) e ∙ append-nil (words p k P n)

pub words_none : (p k : ℕ) (P : Pages) → words p k P 0 ≡ []
unfolding words
words_none p k P = refl

-- one word for each page
pub words_long : (p k : ℕ) (P : Pages) (n : ℕ) → length (words p k P n) ≡ total n (λ c. bit (P c))
unfolding words total
words_long p k P zero = refl
words_long p k P (suc n) = rw (length-append (words p k P n) (cond (P n) (word p k n ∷ []) [])) (omega (arith, words_long p k P n, one (P n)))
  where
    one : (b : Bool) → length (cond b (word p k n ∷ []) []) ≡ bit b
    one true = refl
    one false = refl

pub words_grow : (p k : ℕ) (P : Pages) (n d : ℕ) → length (words p k P n) ≤ length (words p k P (n + d))
words_grow p k P n zero = rw (add-zero n) (omega arith)
words_grow p k P n (suc d) =
    let r = words_grow p k P n d in
    let i : n + suc d ≡ n + d + 1 = omega arith in
    rw i (omega (arith, ap length (words_more p k P (n + d)), length-append (words p k P (n + d)) (cond (P (n + d)) (word p k (n + d) ∷ []) [])))

-- the words are those of the pages below n
pub words_same : (p k : ℕ) (P Q : Pages) (n : ℕ) → ((c : ℕ) → c < n → P c ≡ Q c) → words p k P n ≡ words p k Q n
unfolding words
words_same p k P Q zero e = refl
words_same p k P Q (suc n) e = rw (words_same p k P Q n (λ c l. e c (omega arith)), e n (omega arith))

-- a plan, place by place
pub plan_none : (H : Holding) → plan_words H 0 ≡ []
unfolding plan_words
plan_none H = refl

pub plan_more : (H : Holding) (t : ℕ) → plan_words H (t + 1) ≡ plan_words H t ++ moves (t + 1) (H t) (H (t + 1))
unfolding plan_words
plan_more H t = rw add-one

pub plan_grow : (H : Holding) (t d : ℕ) → length (plan_words H t) ≤ length (plan_words H (t + d))
plan_grow H t zero = rw (add-zero t) (omega arith)
plan_grow H t (suc d) =
    let r = plan_grow H t d in
    let i : t + suc d ≡ t + d + 1 = omega arith in
    rw i (omega (arith, ap length (plan_more H (t + d)), length-append (plan_words H (t + d)) (moves (t + d + 1) (H (t + d)) (H (t + d + 1)))))

-- a page that is still to come has its word
pub words_room : (p k : ℕ) (P : Pages) (n m : ℕ) → n < m → P n ≡ true → length (words p k P n) < length (words p k P m)
words_room p k P n m l e =
    let i : n + 1 + (m - (n + 1)) ≡ m = omega arith in
    let g : length (words p k P (n + 1)) ≤ length (words p k P m) = rw i at (words_grow p k P (n + 1) (m - (n + 1))) in
    omega (arith, ap length (words_yes p k P n e), length-append (words p k P n) (word p k n ∷ []))

-- the words written through an output: a page more, and the last
pub written_yes : (p k : ℕ) (P : Pages) (n : ℕ) {a b c : Output ℕ} → P n ≡ true → Writes a (words p k P n) b → Writes b (word p k n ∷ []) c → Writes a (words p k P (n + 1)) c
written_yes p k P n {a} {b} {c} e v w = subst (λ (ws : List ℕ). Writes a ws c) (sym (words_yes p k P n e)) (writes_more v w)

pub written_no : (p k : ℕ) (P : Pages) (n : ℕ) {a b : Output ℕ} → P n ≡ false → Writes a (words p k P n) b → Writes a (words p k P (n + 1)) b
written_no p k P n {a} {b} e v = subst (λ (ws : List ℕ). Writes a ws b) (sym (words_no p k P n e)) v

pub word_room : (p k : ℕ) (P : Pages) (n m : ℕ) {a b : Output ℕ} → n < m → P n ≡ true → HasRoom a (length (words p k P m)) → Writes a (words p k P n) b → HasRoom b 1
word_room p k P n m l e h w = room_after 1 (omega (arith, h, words_room p k P n m l e)) w
