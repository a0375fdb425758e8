-- Frames that have a page. Assumes nothing.
use Rattle.std.proofs.Common.{◌≡◌, ℕ, zero, suc, ◌<◌, Bool, true, false, eqb, List, [], ◌∷◌, length, get_or, refl, inl, inr, rules, arith}
use Rattle.std.specs.List.{Any}
use Rattle.std.specs.Bool.{IsTrue}
use Rattle.std.proofs.Math.Logic.{◌↔◌}
use Rattle.std.proofs.lemmas.Bool.{or_cases, or_left, or_right, eq-eqb, eqb-true, both_ways}
use Rattle.paging.specs.Pages.{has}
use Rattle.pagers.specs.Tables.{codes_of}
use Rattle.pagers.specs.declared.fifo.Frame.{Frame}

abbrev Has : List Frame → ℕ → Type 0
Has fs c = Any (λ (f : Frame). f.code ≡ c) fs

has_from : (fs : List Frame) (c : ℕ) → Has fs c → has (codes_of fs) c ≡ true
has_from fs c a = at fs a.0 a.1 a.2 a.3 a.4
  where
    at : (fs : List Frame) (k : ℕ) (x : Frame) → k < length fs → get_or fs k x ≡ x → x.code ≡ c → has (codes_of fs) c ≡ true
    at [] k x l e i = absurd (omega arith)
    at (f ∷ fs) zero x l e i = or_left (eqb f.code c) _ (eq-eqb f.code c (rw e i))
    at (f ∷ fs) (suc k) x l e i = or_right (eqb f.code c) _ (at fs k x (omega arith) e i)

has_to : (fs : List Frame) (c : ℕ) → has (codes_of fs) c ≡ true → Has fs c
has_to [] c h = absurd (both_ways false refl h)
has_to (f ∷ fs) c h =
    elim (or_cases (eqb f.code c) (has (codes_of fs) c) h) [
      | inl e ↦ (0, f, omega arith, refl, eqb-true f.code c e)
      | inr e ↦ (let r = has_to fs c e in (suc r.0, r.1, omega arith, r.3, r.4))
    ]

pub has_is : (fs : List Frame) (c : ℕ) (b : Bool) → IsTrue b ↔ Has fs c → b ≡ has (codes_of fs) c
has_is fs c true w = search (rules, has_from)
has_is fs c false w = search (rules, has_to)
