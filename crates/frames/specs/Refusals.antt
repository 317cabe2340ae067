-- The number of each refusal of a frame.
use Rattle.std.specs.Prelude.{ℕ}
use Rattle.frames.specs.declared.refusal.FrameRefusal.{FrameRefusal}
use Rattle.frames.specs.declared.refusal.FrameRefusal.TheVariants.{UnlistedCode, WrongCount}

abbrev pub refusal_number : FrameRefusal → ℕ
refusal_number UnlistedCode = 2
refusal_number WrongCount = 3
