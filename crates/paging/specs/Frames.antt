-- Frame counts from 1 to 64. Assumes nothing.
use Rattle.std.specs.Prelude.{◌≡◌, ℕ, Bool, true, false, ◌&&◌, Ok, Err, Result, nat_le}
use Rattle.paging.specs.declared.frames.FrameCount.{FrameCount}
use Rattle.paging.specs.declared.refusal.Refusal.{Refusal}
use Rattle.paging.specs.declared.refusal.Refusal.TheVariants.{BadFrameCount}

abbrev pub frames_of : FrameCount → ℕ
frames_of f = f.count

-- whether n is a frame count
abbrev pub is_frames : ℕ → Bool
is_frames n = nat_le 1 n && nat_le n 64

-- a checked frame count is the number itself, and only a number that is none is refused
abbrev pub checked : ℕ → Result FrameCount Refusal → Type 0
checked n (Ok f) = (is_frames n ≡ true) × (frames_of f ≡ n)
checked n (Err e) = (is_frames n ≡ false) × (e ≡ BadFrameCount)
