-- The transactions and steps of each deed, in their order.
use Rattle.std.specs.Prelude.{ℕ, ◌/◌, ◌%◌, Bool, List, [], ◌∷◌}
use Rattle.rules.specs.Chip.{Chip}
use Rattle.acts.specs.Acts.{Course, sends, reads, settles, through}

-- a dummy byte, then the row, high byte first
abbrev pub at_row : ℕ → ℕ → List ℕ
at_row code row = code ∷ 0 ∷ (row / 256 % 256) ∷ (row % 256) ∷ []

-- open: the area gets SR-1
abbrev pub beginning : Chip → Bool → List ℕ → Course
beginning c low area = through c low area (sends (0xFF ∷ []) ∷ reads (0x05 ∷ 0xA0 ∷ []) ∷ sends (0x01 ∷ 0xA0 ∷ 0 ∷ []) ∷ [])

-- write: the area gets SR-3; by the frames of 02h and of 10h
abbrev pub programming_by : Chip → Bool → List ℕ → List ℕ → List ℕ → Course
programming_by c low load execute area = through c low area (sends (0x06 ∷ []) ∷ sends load ∷ sends execute ∷ settles ∷ reads (0x05 ∷ 0xC0 ∷ []) ∷ [])

abbrev pub programming : Chip → Bool → ℕ → List ℕ → List ℕ → Course
programming c low row bytes area = programming_by c low (0x02 ∷ 0 ∷ 0 ∷ bytes) (at_row 0x10 row) area

-- check: the area gets the page
abbrev pub fetching : Chip → Bool → ℕ → List ℕ → Course
fetching c low row area = through c low area (sends (at_row 0x13 row) ∷ settles ∷ reads (0x03 ∷ 0 ∷ 0 ∷ 0 ∷ []) ∷ [])
