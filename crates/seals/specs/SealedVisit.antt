-- A seal that is taken: what it writes, and that it stands until the next power cycle.
use Rattle.std.specs.Prelude.{◌≡◌, ℕ, ◌<◌, Bool, true, List, [], ◌∷◌, Ok, bit_and, bit_or}
use Rattle.arrays.specs.Store.{Store, Shape}
use Rattle.rules.specs.Registers.{power_lock}
use Rattle.rules.specs.Seal.{covers}
use Rattle.rules.specs.Chip.{Chip}
use Rattle.rules.specs.Calls.{Reply, transact}
use Rattle.rules.specs.Law.{Call, transaction, Moment, next, new, Run, Throughout, NoPowerCycle, page_at}

-- 01h at SR-1
abbrev pub sr1_frame : ℕ → List ℕ
sr1_frame value = 0x01 ∷ 0xA0 ∷ value ∷ []

unfoldable pub sr1_written : Chip → Bool → ℕ → Reply
sr1_written c low value = transact c (sr1_frame value) low 0

-- S7 is made 0, and S0 is made 1
abbrev pub seal_byte : ℕ → ℕ
seal_byte byte = bit_or (bit_and byte 0x7F) 0x01

abbrev pub sealing : Chip → Bool → ℕ → Reply
sealing c low byte = sr1_written c low (seal_byte byte)

abbrev pub seal_call : Bool → ℕ → Call
seal_call low byte = transaction (sr1_frame (seal_byte byte)) low 0

-- at a moment j, of a seal by the byte that was taken before the moment s
pub record Stood (main : Store) (byte : ℕ) (s j : Moment) : Type 0 where
  -- SR-1 is what the seal wrote, and the card is under power lock
  pub sr1 : j.chip.passing.sr1 ≡ seal_byte byte
  pub locked : power_lock j.chip.passing.sr1 ≡ true
  -- each page is what it was, at each address that the seal of the byte covers
  pub pages : (x p : ℕ) → x < main.blocks → covers main.blocks byte x ≡ true → page_at j x p ≡ page_at s x p

-- over every run of calls without a power cycle
abbrev pub Stands : Store → ℕ → Moment → Type 0
Stands main byte s = (j : Moment) (r : Run s j) → Throughout NoPowerCycle r → Stood main byte s j

-- a seal of the card c, if any calls on a new card led to c, and the seal is taken
abbrev pub SealStands : Chip → Bool → ℕ → Type 0
SealStands c low byte =
    (main otp : Store) → Shape main → Shape otp → (i : Moment) → Run (new main otp) i → i.chip ≡ c → (sealing c low byte).outcome ≡ Ok tt
    → Stands main byte (next i (seal_call low byte))

abbrev pub SealsStand : Type 0
SealsStand = (c : Chip) (low : Bool) (byte : ℕ) → SealStands c low byte
