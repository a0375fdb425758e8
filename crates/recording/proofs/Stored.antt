-- What was loaded is stored as the same bytes, and what was stored is loaded as the same names.
use Rattle.std.proofs.Common.{◌≡◌, ℕ, ◌^◌, ◌<◌, ◌≤◌, true, List, length, get_or, sym, ap, ◌∙◌, arith}
use Rattle.std.proofs.lemmas.List.{length-map, get_or-map}
use Rattle.recording.specs.Coding.{names_in}
use Rattle.recording.specs.Writing.{recording, named_by, all_named}
use Rattle.recording.specs.Standing.{Below, StoredAsLoaded, LoadedAsStored}
use Rattle.recording.proofs.Recorded.{laid}
use Rattle.recording.proofs.Codes.{codes_stand}
use Rattle.recording.proofs.Written.{named_below}

pub stored_as_loaded : (kind width : ℕ) → kind < 4 → 1 ≤ width → StoredAsLoaded kind width
stored_as_loaded kind width mark pos bytes n limit cs low e ec =
    ap (recording kind width) (codes_stand limit (names_in width bytes n) cs ec).back ∙ ((laid kind width mark pos).only bytes n low e).2

-- the names that codes stand for are names of the list
named_by_below : (m : ℕ) (ns cs : List ℕ) → Below m ns → all_named (length ns) cs ≡ true → Below m (named_by ns cs)
named_by_below m ns cs low t i h =
    let l : i < length cs = omega (arith, length-map cs (λ c. get_or ns c 0)) in
    rw (get_or-map (λ c. get_or ns c 0) cs i 0 0 l) (low (get_or cs i 0) (named_below (length ns) cs t i l))

pub loaded_as_stored : (kind width : ℕ) → kind < 4 → 1 ≤ width → LoadedAsStored kind width
loaded_as_stored kind width mark pos ns cs limit ds most low t e =
    let row = named_by ns cs in
    let l : length row ≡ length cs = length-map cs (λ c. get_or ns c 0) in
    let again : names_in width (recording kind width row) (length cs) ≡ row =
    ap (names_in width (recording kind width row)) (sym l) ∙ ((laid kind width mark pos).all row (omega arith, named_by_below (2 ^ width) ns cs low t)).1 in
    (codes_stand limit (names_in width (recording kind width row) (length cs)) ds e).back ∙ again
