-- Which instructions a condition of the refusals is about: it holds of no other one.
use Rattle.std.specs.Prelude.{ℕ, Bool, true, false}
use Rattle.frames.specs.declared.instruction.Simple.{Simple}
use Rattle.frames.specs.declared.instruction.Simple.TheVariants.{Reset, EnableWrite, DisableWrite, Identify, ListLinks}
use Rattle.frames.specs.declared.instruction.RowOperation.{RowOperation}
use Rattle.frames.specs.declared.instruction.RowOperation.TheVariants.{Program, Erase, Fetch}
use Rattle.frames.specs.Frames.{Told, nothing, plain, read_register, write_register, swap, at_row, load_buffer, read_buffer}

-- reads and writes of the register at an address
abbrev pub at_register : Told → (ℕ → Bool) → Bool
at_register nothing holds = false
at_register (plain x) holds = false
at_register (read_register a) holds = holds a
at_register (write_register a v) holds = holds a
at_register (swap a b) holds = false
at_register (at_row x row) holds = false
at_register (load_buffer refill column xs) holds = false
at_register (read_buffer column) holds = false

-- writes of a value to the register at an address
abbrev pub at_write : Told → (ℕ → ℕ → Bool) → Bool
at_write nothing holds = false
at_write (plain x) holds = false
at_write (read_register a) holds = false
at_write (write_register a v) holds = holds a v
at_write (swap a b) holds = false
at_write (at_row x row) holds = false
at_write (load_buffer refill column xs) holds = false
at_write (read_buffer column) holds = false

-- swaps of two addresses
abbrev pub at_swap : Told → (ℕ → ℕ → Bool) → Bool
at_swap nothing holds = false
at_swap (plain x) holds = false
at_swap (read_register a) holds = false
at_swap (write_register a v) holds = false
at_swap (swap a b) holds = holds a b
at_swap (at_row x row) holds = false
at_swap (load_buffer refill column xs) holds = false
at_swap (read_buffer column) holds = false

-- 10h, D8h and 13h: a condition for each
abbrev pub by_row : RowOperation → (ℕ → Bool) → (ℕ → Bool) → (ℕ → Bool) → ℕ → Bool
by_row Program program erase fetch = program
by_row Erase program erase fetch = erase
by_row Fetch program erase fetch = fetch

abbrev pub at_rows : Told → (ℕ → Bool) → (ℕ → Bool) → (ℕ → Bool) → Bool
at_rows nothing program erase fetch = false
at_rows (plain x) program erase fetch = false
at_rows (read_register a) program erase fetch = false
at_rows (write_register a v) program erase fetch = false
at_rows (swap a b) program erase fetch = false
at_rows (at_row x row) program erase fetch = by_row x program erase fetch row
at_rows (load_buffer refill column xs) program erase fetch = false
at_rows (read_buffer column) program erase fetch = false

-- 05h, 0Fh and 9Fh: taken while BUSY is 1
abbrev pub only_identifies : Simple → Bool
only_identifies Reset = false
only_identifies EnableWrite = false
only_identifies DisableWrite = false
only_identifies Identify = true
only_identifies ListLinks = false

abbrev pub taken_while_busy : Told → Bool
taken_while_busy nothing = false
taken_while_busy (plain x) = only_identifies x
taken_while_busy (read_register a) = true
taken_while_busy (write_register a v) = false
taken_while_busy (swap a b) = false
taken_while_busy (at_row x row) = false
taken_while_busy (load_buffer refill column xs) = false
taken_while_busy (read_buffer column) = false

-- 02h, 84h, 32h, 34h, 10h and D8h: refused while WEL is 0
abbrev pub needs_latch : Told → Bool
needs_latch nothing = false
needs_latch (plain x) = false
needs_latch (read_register a) = false
needs_latch (write_register a v) = false
needs_latch (swap a b) = false
needs_latch (at_row x row) = by_row x (λ _. true) (λ _. true) (λ _. false) row
needs_latch (load_buffer refill column xs) = true
needs_latch (read_buffer column) = false
