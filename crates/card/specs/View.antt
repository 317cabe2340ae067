-- A card as a chip of the rules: what its arrays mean, its links, registers, buffer and pending operation.
use Rattle.arrays.specs.Store.{Store}
use Rattle.std.specs.Prelude.{cond}
use Rattle.rules.specs.declared.operation.Place.TheVariants.{Main}
use Rattle.rules.specs.Operations.{loaded}
use Rattle.rules.specs.Chip.{Passing, Chip, fit, blank_buffer, with_buffer}
use Rattle.card.specs.declared.card.Card.{Card}

-- `m` and `o` give the meanings of the main array and of the OTP array
abbrev pub view : {M O : Type 0} → (M → Store) → (O → Store) → Card M O → Chip
view m o c = record {
  lasting = record { main = m c.main.array; otp = o c.otp; links = c.main.table; otp_l = c.locks.otp; sr1_l = c.locks.sr1 };
  passing = record { sr1 = c.sr1.0; flags = c.flags; buffer = c.buffer; pending = c.pending };
}

-- what passes changed, and all that lasts kept
abbrev pub with_passing : (Passing → Passing) → Chip → Chip
with_passing change c = record { lasting = c.lasting; passing = change c.passing }

-- the page buffer after a power cycle
abbrev pub row_0_loaded : Chip → Chip
row_0_loaded c = with_passing (with_buffer (cond (fit c.lasting) (loaded c.lasting (Main 0 0) blank_buffer) blank_buffer)) c

-- what an effect makes of what passes; all that lasts is kept
abbrev pub passing_now : {X Y : Type 0} → (Chip → X → Y → Passing) → Chip → X → Y → Chip
passing_now effect c x y = record { lasting = c.lasting; passing = effect c x y }
