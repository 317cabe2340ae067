-- What a taken instruction does at once and what it drives, and what refusal 11 does.
use Rattle.std.specs.Prelude.{ℕ, ◌-◌, min, true, false, cond, ◌||◌, List, [], ◌∷◌, length, drop, replicate, Option, ◌==◌, nat_lt}
use Rattle.std.proofs.Math.Seq.{paste}
use Rattle.links.specs.Links.{full, table_bytes}
use Rattle.frames.specs.declared.instruction.Simple.{Simple}
use Rattle.frames.specs.declared.instruction.Simple.TheVariants.{Reset, EnableWrite, DisableWrite, Identify, ListLinks}
use Rattle.frames.specs.declared.instruction.RowOperation.{RowOperation}
use Rattle.frames.specs.declared.instruction.RowOperation.TheVariants.{Program, Erase, Fetch}
use Rattle.frames.specs.Frames.{Told, nothing, plain, read_register, write_register, swap, at_row, load_buffer, read_buffer}
use Rattle.rules.specs.declared.flags.Flags.{Flags}
use Rattle.rules.specs.declared.locks.Locks.{Locks}
use Rattle.rules.specs.declared.operation.Operation.TheVariants as operation
use Rattle.rules.specs.declared.operation.Pending.{Pending}
use Rattle.rules.specs.declared.refusal.Refusal.{Refusal}
use Rattle.rules.specs.Outcomes.{refusal_number}
use Rattle.rules.specs.Registers.{sr2, sr3, is_sr1, is_sr2, with_sr2, new_otp_l, new_sr1_l}
use Rattle.rules.specs.FlagChanges.{with_wel, reset_flags, no_fails, program_ended, erase_ended}
use Rattle.rules.specs.Rows.{row_address, row_place}
use Rattle.rules.specs.Chip.{Passing, Chip, busy, blank_buffer, with_sr1, with_flags, with_buffer, with_pending}
use Rattle.rules.specs.Operations.{begun}

-- ---- when taken

abbrev pub simple_effect : Simple → Flags → Flags
simple_effect Reset f = reset_flags f
simple_effect EnableWrite f = with_wel true f
simple_effect DisableWrite f = with_wel false f
simple_effect Identify f = f
simple_effect ListLinks f = f

-- new lock bits start a lock operation
abbrev pub lock_begun : Locks → Option Pending → Option Pending
lock_begun locks pending = cond (locks.otp || locks.sr1) (begun (operation.Lock locks)) pending

abbrev pub sr2_written : Chip → ℕ → Passing
sr2_written c v =
    let s = c.passing in
    with_pending (lock_begun (record { otp = new_otp_l c.lasting.otp_l v; sr1 = new_sr1_l c.lasting.sr1_l v }) s.pending) (with_flags (with_sr2 v s.flags) s)

-- writing SR-3 has no effect
abbrev pub written : Chip → ℕ → ℕ → Passing
written c a v = cond (is_sr1 a) (with_sr1 v c.passing) (cond (is_sr2 a) (sr2_written c v) c.passing)

abbrev pub row_effect : Chip → RowOperation → ℕ → Passing
row_effect c Program row =
    let s = c.passing in
    let main = c.lasting.main in
    with_pending (begun (operation.Program (row_place s.flags.otp_e main.blocks main.pages row))) (with_flags (no_fails s.flags) s)
row_effect c Erase row =
    let s = c.passing in
    let main = c.lasting.main in
    with_pending (begun (operation.Erase (row_address main.blocks main.pages row))) (with_flags (no_fails s.flags) s)
row_effect c Fetch row =
    let s = c.passing in
    let main = c.lasting.main in
    with_pending (begun (operation.Load (row_place s.flags.otp_e main.blocks main.pages row))) s

-- data at a column of the buffer: what passes its end is dropped
abbrev pub put : ℕ → List ℕ → List ℕ → List ℕ
put column xs buffer = cond (nat_lt column (length buffer)) (paste buffer column xs (min (length xs) (length buffer - column))) buffer

abbrev pub effect : Chip → Told → Passing
effect c nothing = c.passing
effect c (plain x) = with_flags (simple_effect x c.passing.flags) c.passing
effect c (read_register a) = c.passing
effect c (write_register a v) = written c a v
effect c (swap a b) = with_pending (begun (operation.Swap a b)) c.passing
effect c (at_row x row) = row_effect c x row
effect c (load_buffer refill column xs) = with_buffer (put column xs (cond refill blank_buffer c.passing.buffer)) c.passing
effect c (read_buffer column) = c.passing

-- ---- when refused

-- number 11 at 10h and at D8h
abbrev pub row_failed : RowOperation → Flags → Flags
row_failed Program f = program_ended true f
row_failed Erase f = erase_ended true f
row_failed Fetch f = f

abbrev pub failed : Told → Flags → Flags
failed nothing f = f
failed (plain x) f = f
failed (read_register a) f = f
failed (write_register a v) f = f
failed (swap a b) f = f
failed (at_row x row) f = row_failed x f
failed (load_buffer refill column xs) f = f
failed (read_buffer column) f = f

-- all other refusals alter nothing
abbrev pub refused_flags : Refusal → Told → Flags → Flags
refused_flags refusal i f = cond (refusal_number refusal == 11) (failed i f) f

abbrev pub refusal_effect : Refusal → Told → Passing → Passing
refusal_effect refusal i s = with_flags (refused_flags refusal i s.flags) s

-- ---- what is driven, before the area cuts it

abbrev pub register : Chip → ℕ → ℕ
register c a =
    let l = c.lasting in
    let s = c.passing in
    cond (is_sr1 a) s.sr1 (cond (is_sr2 a) (sr2 l.otp_l l.sr1_l s.flags) (sr3 (full l.links) s.flags (busy s.pending)))

abbrev pub simple_drives : Chip → Simple → List ℕ
simple_drives c Reset = []
simple_drives c EnableWrite = []
simple_drives c DisableWrite = []
simple_drives c Identify = 0xEF ∷ 0xBA ∷ 0x21 ∷ []
simple_drives c ListLinks = table_bytes c.lasting.links

-- a register is driven as often as the area, of n bytes, is long
abbrev pub drives : Chip → ℕ → Told → List ℕ
drives c n nothing = []
drives c n (plain x) = simple_drives c x
drives c n (read_register a) = replicate n (register c a)
drives c n (write_register a v) = []
drives c n (swap a b) = []
drives c n (at_row x row) = []
drives c n (load_buffer refill column xs) = []
drives c n (read_buffer column) = drop column c.passing.buffer
