-- Bytes that load as a row of names. Assumes nothing.
use Rattle.std.specs.Prelude.{◌≡◌, ℕ, List, length, Ok}
use Rattle.recording.specs.Coding.{names_in}
use Rattle.recording.specs.Reading.{laid_out}

-- the bytes have the layout of a recording of that kind, and the names in them are ns
abbrev pub LoadsAs : ℕ → ℕ → List ℕ → List ℕ → Type 0
LoadsAs kind width ns bytes = (laid_out kind width bytes ≡ Ok (length ns)) × (names_in width bytes (length ns) ≡ ns)
