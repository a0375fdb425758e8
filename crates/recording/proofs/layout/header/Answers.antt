-- The four numbers taken are those of the first three bytes.
use Rattle.std.proofs.Common.{◌+◌, Err, sym, refl, ap, ◌∙◌, inl, inr, arith}
use Rattle.recording.proofs.Layouts.{Front, front_ok, moved_on, head_unmarked, head_many, head_counted}
use Rattle.recording.proofs.layout.header.Given.{Over}
use Rattle.recording.proofs.layout.header.Goals as goal
use Rattle.recording.proofs.layout.header.Goals.{In_ok-count, then-version-ne-VERSION-via-then-version-ne-VERSION, then-version-ne-VERSION-via-else-version-ne-VERSION+then-kind-kind_number, then-version-ne-VERSION-via-else-version-ne-VERSION+else-kind-kind_number+then-zero-ne0}

front : (g : Over) (c : In_ok-count g) → Front c.args.bytes.now c.in_ok-version.version c.in_ok-kind.kind c.in_ok-zero.zero c.in_ok-count.count
front g c =
    let bytes = c.args.bytes.now in
    let len = c.min.result in
    let l = c.min.ensures in
    let o0 = c.in_ok-version.was in
    let o1 = c.in_ok-kind.was in
    let o2 = c.in_ok-zero.was in
    let o3 = c.in_ok-count.was in
    let i1 = moved_on 0 _ 4 _ _ o0 c.take.ensures.at in
    let i2 = moved_on _ _ 2 _ _ o1 c.take-2.ensures.at ∙ ap (λ n. n + 2) i1 in
    let i3 = moved_on _ _ 2 _ _ o2 c.take-3.ensures.at ∙ ap (λ n. n + 2) i2 in
    let p1 = c.take.ensures.bytes in
    let p2 = c.take-2.ensures.bytes ∙ p1 in
    let p3 = c.take-3.ensures.bytes ∙ p2 in
    let r0 = front_ok bytes _ len 0 4 _ refl l (omega arith) (sym c.take.ensures.answer ∙ o0) in
    let r1 = front_ok bytes _ len 4 2 _ p1 l (omega arith) (rw i1 at (sym c.take-2.ensures.answer ∙ o1)) in
    let r2 = front_ok bytes _ len 6 2 _ p2 l (omega arith) (rw i2 at (sym c.take-3.ensures.answer ∙ o2)) in
    let r3 = front_ok bytes _ len 8 16 _ p3 l (omega arith) (rw i3 at (sym c.take-4.ensures.answer ∙ o3)) in
    record { long = omega arith; version_is = r0.0; kind_is = r1.0; zeros_are = r2.0; count_is = r3.0 }

pub returns-then-version-ne-VERSION : goal.returns-then-version-ne-VERSION
returns-then-version-ne-VERSION g c =
    let f = front g (goal.at.returns-then-version-ne-VERSION g c).In_ok-count in
    ap Err c.by_bytes.ensures ∙ elim c.then-version-ne-VERSION.branch [
      | then-version-ne-VERSION-via-then-version-ne-VERSION w ↦ head_unmarked _ g.N.Name.kind _ _ _ _ f (inl w.if-version-ne-VERSION.true)
      | then-version-ne-VERSION-via-else-version-ne-VERSION+then-kind-kind_number w ↦ head_unmarked _ g.N.Name.kind _ _ _ _ f (inr (inl (λ e. w.if-kind-kind_number.true (e ∙ sym w.kind_number.ensures))))
      | then-version-ne-VERSION-via-else-version-ne-VERSION+else-kind-kind_number+then-zero-ne0 w ↦ head_unmarked _ g.N.Name.kind _ _ _ _ f (inr (inr w.if-zero-ne0.true))
    ]

pub returns-then-count-gt-MOST : goal.returns-then-count-gt-MOST
returns-then-count-gt-MOST g c =
    ap Err c.by_bytes-then-count-gt-MOST.ensures
    ∙ head_many _ _ _ _ _ _ (front g (goal.at.returns-then-count-gt-MOST g c).In_ok-count) c.if-version-ne-VERSION.false (c.if-kind-kind_number.false ∙ c.kind_number.ensures) c.if-zero-ne0.false c.if-count-gt-MOST.true

pub returns : goal.returns
returns g c = head_counted _ _ _ _ _ _ (front g (goal.at.returns g c).In_ok-count) c.if-version-ne-VERSION.false (c.if-kind-kind_number.false ∙ c.kind_number.ensures) c.if-zero-ne0.false c.if-count-gt-MOST.false
