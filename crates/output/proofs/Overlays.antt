-- Memory with items written over a part of it. Assumes nothing.
use Rattle.std.proofs.Common.{◌≡◌, ℕ, ◌+◌, ◌≤◌, List, [], ◌++◌, length, take, drop, sym, ap, ◌∙◌, append_assoc, add-zero, arith}
use Rattle.std.proofs.lemmas.List.{length-append, length-take-le, length-drop, take_at, drop_at, drop-drop, take-append-drop}
use Rattle.output.specs.Writing.{overlay}

-- nothing was written
pub overlay_none : {T : Type 0} (xs : List T) (at : ℕ) → overlay xs at [] ≡ xs
overlay_none xs at = rw (add-zero at) (take-append-drop at xs)

-- the memory stays as long as it was
pub length_overlay : {T : Type 0} (xs : List T) (at : ℕ) (ys : List T) → at + length ys ≤ length xs → length (overlay xs at ys) ≡ length xs
length_overlay xs at ys h =
    length-append (take at xs) (ys ++ drop (at + length ys) xs) ∙
    omega (arith, length-append ys (drop (at + length ys) xs), length-take-le at xs (omega arith), length-drop (at + length ys) xs)

-- some items after others
pub overlay_append : {T : Type 0} (xs : List T) (at : ℕ) (ys zs : List T) → at ≤ length xs →
    overlay (overlay xs at ys) (at + length ys) zs ≡ overlay xs at (ys ++ zs)
overlay_append {T = T} xs at ys zs h =
    let n : length (take at xs ++ ys) ≡ at + length ys = length-append (take at xs) ys ∙ ap (λ k. k + length ys) (length-take-le at xs h) in
    let e : overlay xs at ys ≡ (take at xs ++ ys) ++ drop (at + length ys) xs = sym (append_assoc (take at xs) ys (drop (at + length ys) xs)) in
    let front : take (at + length ys) (overlay xs at ys) ≡ take at xs ++ ys =
    ap (take (at + length ys)) e ∙ take_at (take at xs ++ ys) (drop (at + length ys) xs) (at + length ys) n in
    let tail : drop (at + length ys) (overlay xs at ys) ≡ drop (at + length ys) xs =
    ap (drop (at + length ys)) e ∙ drop_at (take at xs ++ ys) (drop (at + length ys) xs) (at + length ys) n in
    let back : drop (at + length ys + length zs) (overlay xs at ys) ≡ drop (at + length (ys ++ zs)) xs =
    sym (drop-drop (length zs) (at + length ys) (overlay xs at ys)) ∙ ap (drop (length zs)) tail ∙ drop-drop (length zs) (at + length ys) xs
    ∙ ap (λ (k : ℕ). drop k xs) (omega (arith, length-append ys zs)) in
    let f : overlay (overlay xs at ys) (at + length ys) zs ≡ (take at xs ++ ys) ++ (zs ++ drop (at + length (ys ++ zs)) xs) =
    ap (λ (p : List T). p ++ (zs ++ drop (at + length ys + length zs) (overlay xs at ys))) front
    ∙ ap (λ (q : List T). (take at xs ++ ys) ++ (zs ++ q)) back in
    f ∙ append_assoc (take at xs) ys (zs ++ drop (at + length (ys ++ zs)) xs)
    ∙ ap (λ (q : List T). take at xs ++ q) (sym (append_assoc ys zs (drop (at + length (ys ++ zs)) xs)))
