-- Operations: how many steps each has, and what its last step does.
use Rattle.std.specs.Prelude.{ℕ, Bool, true, false, ◌||◌, List, length, None, Ok, Err, Option, Result}
use Rattle.arrays.specs.declared.error.ArrayError.{ArrayError}
use Rattle.arrays.specs.declared.error.ArrayError.TheVariants.{Worn, Absent}
use Rattle.arrays.specs.Store.{Store, present, has_block, lives, write_answer, area_after, after_program, after_erase}
use Rattle.links.specs.Links.{after_swap}
use Rattle.rules.specs.declared.flags.Flags.{Flags}
use Rattle.rules.specs.declared.operation.Place.{Place}
use Rattle.rules.specs.declared.operation.Place.TheVariants.{Main, Otp}
use Rattle.rules.specs.declared.operation.Operation.{Operation}
use Rattle.rules.specs.declared.operation.Operation.TheVariants.{Load, Swap, Program, Erase, Lock}
use Rattle.rules.specs.declared.operation.Pending.{Pending}
use Rattle.rules.specs.FlagChanges.{with_wel, program_ended, erase_ended}
use Rattle.rules.specs.Chip.{Lasting, Chip, doing, reached, linked_main, with_main, with_otp, with_links, with_locks}

abbrev pub steps : Operation → ℕ
steps (Load place) = 1
steps (Swap a b) = 2
steps (Program place) = 4
steps (Erase x) = 16
steps (Lock locks) = 4

-- an operation with all its steps left
abbrev pub begun : Operation → Option Pending
begun operation = doing operation (steps operation)

-- ---- pages

-- the buffer after a load of a page
abbrev pub loaded : Lasting → Place → List ℕ → List ℕ
loaded l (Main x page) buffer = area_after (linked_main l) x page buffer
loaded l (Otp page) buffer = area_after l.otp 0 page buffer

abbrev pub is_worn : Result (Unit {0}) ArrayError → Bool
is_worn (Ok done) = false
is_worn (Err Worn) = true
is_worn (Err Absent) = false

abbrev pub program_worn : Store → ℕ → ℕ → List ℕ → Bool
program_worn s x page xs = is_worn (write_answer (present s x page (length xs)) (lives s x))

abbrev pub erase_worn : Store → ℕ → Bool
erase_worn s x = is_worn (write_answer (has_block s x) (lives s x))

abbrev pub page_worn : Lasting → Place → List ℕ → Bool
page_worn l (Main x page) xs = program_worn (linked_main l) x page xs
page_worn l (Otp page) xs = program_worn l.otp 0 page xs

abbrev pub page_programmed : Lasting → Place → List ℕ → Lasting
page_programmed l (Main x page) xs = with_main (after_program l.main (reached l x) page xs) l
page_programmed l (Otp page) xs = with_otp (after_program l.otp 0 page xs) l

-- ---- the last step: what then lasts, the flags and the buffer

abbrev pub lasting_after : Operation → Chip → Lasting
lasting_after (Load place) c = c.lasting
lasting_after (Swap a b) c = let l = c.lasting in with_links (after_swap l.main.blocks a b l.links) l
lasting_after (Program place) c = page_programmed c.lasting place c.passing.buffer
lasting_after (Erase x) c = let l = c.lasting in with_main (after_erase l.main (reached l x)) l
lasting_after (Lock locks) c = let l = c.lasting in with_locks (l.otp_l || locks.otp) (l.sr1_l || locks.sr1) l

abbrev pub flags_after : Operation → Chip → Flags
flags_after (Load place) c = with_wel false c.passing.flags
flags_after (Swap a b) c = c.passing.flags
flags_after (Program place) c = program_ended (page_worn c.lasting place c.passing.buffer) c.passing.flags
flags_after (Erase x) c = erase_ended (erase_worn (linked_main c.lasting) x) c.passing.flags
flags_after (Lock locks) c = c.passing.flags

abbrev pub buffer_after : Operation → Chip → List ℕ
buffer_after (Load place) c = loaded c.lasting place c.passing.buffer
buffer_after (Swap a b) c = c.passing.buffer
buffer_after (Program place) c = c.passing.buffer
buffer_after (Erase x) c = c.passing.buffer
buffer_after (Lock locks) c = c.passing.buffer

abbrev pub finished : Operation → Chip → Chip
finished operation c = record {
  lasting = lasting_after operation c;
  passing = record { sr1 = c.passing.sr1; flags = flags_after operation c; buffer = buffer_after operation c; pending = None };
}
