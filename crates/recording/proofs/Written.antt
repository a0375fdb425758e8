-- The bits of a recording, as the code makes them.
use Rattle.std.proofs.Common.{◌≡◌, ℕ, zero, suc, ◌+◌, ◌-◌, ◌*◌, ◌<◌, true, ltb, List, [], ◌∷◌, ◌++◌, length, get_or, drop, set, sym, refl, ap, ◌∙◌, add-one, arith}
use Rattle.std.proofs.lemmas.Bool.{cond_both, and_parts, ltb-true}
use Rattle.recording.specs.Bits.{bit_in, bit_of, number_at, numbers_at}
use Rattle.recording.specs.Writing.{front_number, recording_bit, all_named}
use Rattle.recording.proofs.Bitwise.{length_numbers, numbers_push}
use Rattle.recording.proofs.Progress.{set_behind}

-- each code that has a name is below the number of names
pub named_below : (n : ℕ) (cs : List ℕ) → all_named n cs ≡ true → (i : ℕ) → i < length cs → get_or cs i 0 < n
named_below n [] t i h = absurd (omega arith)
named_below n (c ∷ cs) t zero h = ltb-true c n (and_parts (ltb c n) (all_named n cs) t).0
named_below n (c ∷ cs) t (suc i) h = named_below n cs (and_parts (ltb c n) (all_named n cs) t).1 i (omega arith)

pub recording_bit_below : (kind width : ℕ) (ns : List ℕ) (i : ℕ) → recording_bit kind width ns i < 2
recording_bit_below kind width ns i = cond_both (ltb i 24) (bit_in 24 (front_number kind (length ns)) i) (bit_of width ns (i - 24)) (λ x. x < 2) (λ _. omega arith) (λ _. omega arith)

-- the first bytes written, and one byte more
pub written_none : (b : ℕ → ℕ) (out : List ℕ) → out ≡ numbers_at b 8 0 0 ++ out
unfolding numbers_at
written_none b out = refl

pub written_more : (b : ℕ → ℕ) (start out : List ℕ) (i v : ℕ) → out ≡ numbers_at b 8 0 i ++ drop i start → v ≡ number_at b (i * 8) 8 → i < length start → set out i v ≡ numbers_at b 8 0 (i + 1) ++ drop (i + 1) start
written_more b start out i v so is h =
    let z : 0 + i * 8 ≡ i * 8 = omega arith in
    let one : numbers_at b 8 0 (i + 1) ≡ numbers_at b 8 0 i ++ v ∷ [] =
    ap (numbers_at b 8 0) (add-one i) ∙ numbers_push b 8 0 i ∙ ap (λ (j : ℕ). numbers_at b 8 0 i ++ number_at b j 8 ∷ []) z ∙ ap (λ (x : ℕ). numbers_at b 8 0 i ++ x ∷ []) (sym is) in
    ap (λ (ys : List ℕ). set ys i v) so
    ∙ set_behind (numbers_at b 8 0 i) start i v (length_numbers b 8 0 i) h
    ∙ ap (λ (ys : List ℕ). ys ++ drop (i + 1) start) (sym one)
