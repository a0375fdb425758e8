-- A table of frames with a hand. Assumes nothing.
use Rattle.std.specs.Prelude.{ℕ, List, ◌++◌, map, take, drop}
use Rattle.pagers.specs.declared.fifo.Frame.{Frame}

-- the code of the page in a frame
abbrev pub code_of : Frame → ℕ
code_of f = f.code

-- the codes of all frames, those not in use too
abbrev pub codes_of : List Frame → List ℕ
codes_of fs = map code_of fs

-- the codes of the frames in use, from the hand round
abbrev pub queue : ℕ → ℕ → List ℕ → List ℕ
queue used hand cs = drop hand (take used cs) ++ take hand cs
