-- The queue in a table of frames with a hand. Assumes nothing.
use Rattle.std.specs.Prelude.{◌≡◌, ℕ, ◌+◌, ◌<◌, ◌≤◌, cond, ◌⊎◌, List, [], ◌∷◌, ◌++◌, length, take, drop, ◌==◌, ◌≢◌, nat_lt, slice_set}
use Rattle.std.proofs.Common.{ap, sym, ◌∙◌, append_assoc, append-nil, inl, inr, arith, length-append, length-drop}
use Rattle.std.proofs.Math.Seq.{take-set-lt}
use Rattle.std.proofs.lemmas.List.{length-take-le, take-append-drop, take-take, take_more_set, drop-set-lt, drop-append-le, drop-drop, drop_all}
use Rattle.std.proofs.lemmas.Bool.{eq-eqb, ne_eqb, lt-ltb, le-ltb, le-leb, lt-leb, cases_lt, cases_eq}
use Rattle.paging.specs.Pages.{has}
use Rattle.paging.proofs.Queues.{fifo_in, has_turned}
use Rattle.pagers.specs.Tables.{queue}

module _ (xs : List ℕ) (room used hand : ℕ) (wide : room ≤ length xs) (within : used ≤ room) (at : hand < room)
    (filling : used < room → hand ≡ used) where
  pub behind : hand ≤ used
  behind = go (cases_lt used room)
    where
      go : (used < room) ⊎ (room ≤ used) → hand ≤ used
      go (inl l) = omega (arith, filling l)
      go (inr g) = omega arith

  parts : take hand xs ++ drop hand (take used xs) ≡ take used xs
  parts = ap (λ (p : List ℕ). p ++ drop hand (take used xs)) (sym (take-take hand used xs behind)) ∙ take-append-drop hand (take used xs)

  pub queue_has : has (queue used hand xs) ≡ has (take used xs)
  queue_has = has_turned (take hand xs) (drop hand (take used xs)) ∙ ap has parts

  pub queue_long : length (queue used hand xs) ≡ used
  queue_long =
      let b = behind in
      let e = length-take-le used xs (omega arith) in
      let d = length-take-le hand xs (omega arith) in
      simp (length-append, length-drop) (omega arith)

  -- a page comes to the frame at the hand
  module _ (x n h : ℕ) where
    came : take (hand + 1) (slice_set xs hand x) ≡ take hand xs ++ x ∷ []
    came = take_more_set xs hand x (omega arith)

    free_on : used < room → hand + 1 < room → queue (used + 1) (hand + 1) (slice_set xs hand x) ≡ queue used hand xs ++ x ∷ []
    free_on l on =
        let e : used ≡ hand = sym (filling l) in
        rw e (ap (λ (p : List ℕ). p ++ take (hand + 1) (slice_set xs hand x)) (drop_all (hand + 1) (take (hand + 1) (slice_set xs hand x)) (rw came (simp length-append (omega (arith, length-take-le hand xs (omega arith)))))) ∙ came ∙
        ap (λ (p : List ℕ). (p ++ take hand xs) ++ x ∷ []) (sym (drop_all hand (take hand xs) (omega (arith, length-take-le hand xs (omega arith))))))

    free_round : used < room → hand + 1 ≡ room → queue (used + 1) 0 (slice_set xs hand x) ≡ queue used hand xs ++ x ∷ []
    free_round l round =
        let e : used ≡ hand = sym (filling l) in
        rw e (append-nil (take (hand + 1) (slice_set xs hand x)) ∙ came ∙
        ap (λ (p : List ℕ). (p ++ take hand xs) ++ x ∷ []) (sym (drop_all hand (take hand xs) (omega (arith, length-take-le hand xs (omega arith))))))

    rest : room ≤ used → drop 1 (queue used hand xs) ≡ drop (hand + 1) (take used xs) ++ take hand xs
    rest g =
        drop-append-le 1 (drop hand (take used xs)) (take hand xs) (simp length-drop (omega (arith, length-take-le used xs (omega arith)))) ∙
        ap (λ (p : List ℕ). p ++ take hand xs) (drop-drop 1 hand (take used xs))

    full_on : room ≤ used → hand + 1 < room → queue used (hand + 1) (slice_set xs hand x) ≡ drop 1 (queue used hand xs) ++ x ∷ []
    full_on g on =
        ap (λ (p : List ℕ). drop (hand + 1) p ++ take (hand + 1) (slice_set xs hand x)) (take-set-lt used xs hand x (omega arith)) ∙
        ap (λ (p : List ℕ). p ++ take (hand + 1) (slice_set xs hand x)) (drop-set-lt (hand + 1) (take used xs) hand x (omega arith)) ∙
        ap (λ (p : List ℕ). drop (hand + 1) (take used xs) ++ p) came ∙
        sym (append_assoc (drop (hand + 1) (take used xs)) (take hand xs) (x ∷ [])) ∙
        ap (λ (p : List ℕ). p ++ x ∷ []) (sym (rest g))

    full_round : room ≤ used → hand + 1 ≡ room → queue used 0 (slice_set xs hand x) ≡ drop 1 (queue used hand xs) ++ x ∷ []
    full_round g round =
        let e : used ≡ hand + 1 = omega arith in
        append-nil (take used (slice_set xs hand x)) ∙ ap (λ (k : ℕ). take k (slice_set xs hand x)) e ∙ came ∙
        ap (λ (p : List ℕ). (p ++ take hand xs) ++ x ∷ []) (sym (drop_all (hand + 1) (take used xs) (omega (arith, length-take-le used xs (omega arith))))) ∙
        ap (λ (p : List ℕ). p ++ x ∷ []) (sym (rest g))

    grows : n ≡ cond (nat_lt used room) (used + 1) used → ((used < room) × (n ≡ used + 1)) ⊎ ((room ≤ used) × (n ≡ used))
    grows e = go (cases_lt used room)
      where
        go : (used < room) ⊎ (room ≤ used) → ((used < room) × (n ≡ used + 1)) ⊎ ((room ≤ used) × (n ≡ used))
        go (inl l) = inl (l, e ∙ rw (lt-ltb used room l))
        go (inr g) = inr (g, e ∙ rw (le-ltb used room g))

    -- by what the code does with the count and with the hand
    pub queue_pull : n ≡ cond (nat_lt used room) (used + 1) used → h ≡ cond (hand + 1 == room) 0 (hand + 1) →
        queue n h (slice_set xs hand x) ≡ fifo_in room x (queue used hand xs)
    queue_pull grown moved = go (grows grown) (cases_eq (hand + 1) room)
      where
        go : ((used < room) × (n ≡ used + 1)) ⊎ ((room ≤ used) × (n ≡ used)) → (hand + 1 ≡ room) ⊎ (hand + 1 ≢ room) →
            queue n h (slice_set xs hand x) ≡ fifo_in room x (queue used hand xs)
        go (inl g) (inl r) =
            let k : h ≡ 0 = moved ∙ rw (eq-eqb (hand + 1) room r) in
            rw (lt-leb room (length (queue used hand xs)) (omega (arith, queue_long)), g.1, k) (free_round g.0 r)
        go (inl g) (inr r) =
            let k : h ≡ hand + 1 = moved ∙ rw (ne_eqb (hand + 1) room r) in
            rw (lt-leb room (length (queue used hand xs)) (omega (arith, queue_long)), g.1, k) (free_on g.0 (omega arith))
        go (inr g) (inl r) =
            let k : h ≡ 0 = moved ∙ rw (eq-eqb (hand + 1) room r) in
            rw (le-leb room (length (queue used hand xs)) (omega (arith, queue_long)), g.1, k) (full_round g.0 r)
        go (inr g) (inr r) =
            let k : h ≡ hand + 1 = moved ∙ rw (ne_eqb (hand + 1) room r) in
            rw (le-leb room (length (queue used hand xs)) (omega (arith, queue_long)), g.1, k) (full_on g.0 (omega arith))

    -- the hand stays with the first free frame
    pub hand_on : n ≡ cond (nat_lt used room) (used + 1) used → h ≡ cond (hand + 1 == room) 0 (hand + 1) →
        (n ≤ room) × (h < room) × (n < room → h ≡ n)
    hand_on grown moved = go (grows grown) (cases_eq (hand + 1) room)
      where
        go : ((used < room) × (n ≡ used + 1)) ⊎ ((room ≤ used) × (n ≡ used)) → (hand + 1 ≡ room) ⊎ (hand + 1 ≢ room) →
            (n ≤ room) × (h < room) × (n < room → h ≡ n)
        go (inl g) (inl r) =
            let k : h ≡ 0 = moved ∙ rw (eq-eqb (hand + 1) room r) in
            let f = filling g.0 in
            (omega arith, omega arith, λ l. absurd (omega arith))
        go (inl g) (inr r) =
            let k : h ≡ hand + 1 = moved ∙ rw (ne_eqb (hand + 1) room r) in
            let f = filling g.0 in
            (omega arith, omega arith, λ l. omega arith)
        go (inr g) (inl r) = let k : h ≡ 0 = moved ∙ rw (eq-eqb (hand + 1) room r) in (omega arith, omega arith, λ l. absurd (omega arith))
        go (inr g) (inr r) = let k : h ≡ hand + 1 = moved ∙ rw (ne_eqb (hand + 1) room r) in (omega arith, omega arith, λ l. absurd (omega arith))
