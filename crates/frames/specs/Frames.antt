-- What the sent bytes tell: the instruction with its values, whether its code is listed and the count of bytes right, and its flags.
use Rattle.std.specs.Prelude.{ℕ, ◌+◌, ◌*◌, ◌%◌, Bool, false, cond, List, [], ◌∷◌, length, drop, is_some, Some, None, Ok, Err, Option, Result, slice_index}
use Rattle.frames.specs.declared.instruction.Simple.{Simple}
use Rattle.frames.specs.declared.instruction.RowOperation.{RowOperation}
use Rattle.frames.specs.declared.refusal.FrameRefusal.{FrameRefusal}
use Rattle.frames.specs.declared.refusal.FrameRefusal.TheVariants.{UnlistedCode, WrongCount}
use Rattle.frames.specs.declared.line.Group.{Group}
use Rattle.frames.specs.declared.line.Group.TheVariants as group
use Rattle.frames.specs.declared.frame.Flags.{Flags}
use Rattle.frames.specs.declared.line.Line.{Line}
use Rattle.frames.specs.Instructions.{line_of, allowed}

-- an instruction with its values; of a load, whether all other bytes of the buffer become FFh, the column and the data
pub data Told : Type 0 where
  nothing : Told
  plain : Simple → Told
  read_register : ℕ → Told
  write_register : ℕ → ℕ → Told
  swap : ℕ → ℕ → Told
  at_row : RowOperation → ℕ → Told
  load_buffer : Bool → ℕ → List ℕ → Told
  read_buffer : ℕ → Told

-- two bytes as a number, the high one first
abbrev pub word : ℕ → ℕ → ℕ
word high low = high * 256 + low

abbrev pub word_at : ℕ → List ℕ → ℕ
word_at i sent = word (slice_index sent i) (slice_index sent (i + 1))

-- the low 12 bits of the two bytes after the code
abbrev pub column_of : List ℕ → ℕ
column_of sent = word_at 1 sent % 4096

-- a dummy stands between the code and the row
abbrev pub row_of : List ℕ → ℕ
row_of sent = word_at 2 sent

abbrev pub told_as : Group → List ℕ → Told
told_as (group.Plain simple) sent = plain simple
told_as group.ReadRegister sent = read_register (slice_index sent 1)
told_as group.WriteRegister sent = write_register (slice_index sent 1) (slice_index sent 2)
told_as group.Swap sent = swap (word_at 1 sent) (word_at 3 sent)
told_as (group.AtRow operation) sent = at_row operation (row_of sent)
told_as (group.LoadBuffer refill) sent = load_buffer refill (column_of sent) (drop 3 sent)
told_as group.ReadBuffer sent = read_buffer (column_of sent)

-- the line of the code, which is sent first
abbrev pub line_for : List ℕ → Option Line
line_for [] = None
line_for (c ∷ rest) = line_of c

abbrev pub told_by : Option Line → List ℕ → Told
told_by None sent = nothing
told_by (Some line) sent = told_as line.1 sent

abbrev pub count_by : Option Line → ℕ → Bool
count_by None n = false
count_by (Some line) n = allowed line.2 n

abbrev pub flags_by : Option Line → Flags
flags_by None = record { write = false; quad = false }
flags_by (Some line) = line.3

-- was a code sent that the table lists
abbrev pub listed : List ℕ → Bool
listed sent = is_some (line_for sent)

-- were as many bytes sent as the code takes
abbrev pub count_right : List ℕ → Bool
count_right sent = count_by (line_for sent) (length sent)

abbrev pub told : List ℕ → Told
told sent = told_by (line_for sent) sent

abbrev pub write_frame : List ℕ → Bool
write_frame sent = (flags_by (line_for sent)).write

abbrev pub quad_frame : List ℕ → Bool
quad_frame sent = (flags_by (line_for sent)).quad

-- a frame as values: the instruction and the flags of its code
pub record Framed : Type 0 where
  pub told : Told
  pub flags : Flags

abbrev pub frame : List ℕ → Framed
frame sent = record { told = told sent; flags = record { write = write_frame sent; quad = quad_frame sent } }

-- the frame, unless the code is not listed, or else the count is wrong
abbrev pub decoded : List ℕ → Result Framed FrameRefusal
decoded sent = cond (listed sent) (cond (count_right sent) (Ok (frame sent)) (Err WrongCount)) (Err UnlistedCode)
