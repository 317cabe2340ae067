-- What the code's own frame says: its values, and that they are those that the sent bytes tell.
use Rattle.std.specs.Prelude.{◌≡◌, ℕ, true, false, List, drop, Ok, Err, Result}
use Rattle.frames.specs.declared.instruction.Instruction.{Instruction}
use Rattle.frames.specs.declared.instruction.Instruction.TheVariants.{Plain, ReadRegister, WriteRegister, Swap, AtRow, LoadBuffer, ReadBuffer}
use Rattle.frames.specs.declared.frame.Frame.{Frame}
use Rattle.frames.specs.declared.refusal.FrameRefusal.{FrameRefusal}
use Rattle.frames.specs.declared.refusal.FrameRefusal.TheVariants.{UnlistedCode, WrongCount}
use Rattle.frames.specs.Frames.{Told, plain, read_register, write_register, swap, at_row, load_buffer, read_buffer, Framed, listed, count_right, told, write_frame, quad_frame}

abbrev pub values : Instruction → Told
values (Plain simple) = plain simple
values (ReadRegister address) = read_register address
values (WriteRegister address value) = write_register address value
values (Swap a b) = swap a b
values (AtRow operation row) = at_row operation row
values (LoadBuffer refill column bytes) = load_buffer refill column bytes.now
values (ReadBuffer column) = read_buffer column

abbrev pub frame_values : Result Frame FrameRefusal → Result Framed FrameRefusal
frame_values (Ok frame) = Ok (record { told = values frame.instruction; flags = frame.flags })
frame_values (Err refusal) = Err refusal

-- what a caller learns of the sent bytes from a frame
pub record Tells (frame : Frame) (sent : List ℕ) : Type 0 where
  pub is_listed : listed sent ≡ true
  pub counts : count_right sent ≡ true
  pub instruction : values frame.instruction ≡ told sent
  pub write : frame.flags.write ≡ write_frame sent
  pub quad : frame.flags.quad ≡ quad_frame sent

-- and from a refusal
abbrev pub Refuses : FrameRefusal → List ℕ → Type 0
Refuses UnlistedCode sent = listed sent ≡ false
Refuses WrongCount sent = (listed sent ≡ true) × (count_right sent ≡ false)

abbrev pub Shown : Result Frame FrameRefusal → List ℕ → Type 0
Shown (Ok frame) sent = Tells frame sent
Shown (Err refusal) sent = Refuses refusal sent

-- the data of a load are the sent bytes from the fourth on
abbrev pub DataOf : Instruction → List ℕ → Type 0
DataOf (Plain simple) sent = Unit {0}
DataOf (ReadRegister address) sent = Unit {0}
DataOf (WriteRegister address value) sent = Unit {0}
DataOf (Swap a b) sent = Unit {0}
DataOf (AtRow operation row) sent = Unit {0}
DataOf (LoadBuffer refill column bytes) sent = bytes.now ≡ drop 3 sent
DataOf (ReadBuffer column) sent = Unit {0}

abbrev pub Borrowed : Result Frame FrameRefusal → List ℕ → Type 0
Borrowed (Ok frame) sent = DataOf frame.instruction sent
Borrowed (Err refusal) sent = Unit {0}
