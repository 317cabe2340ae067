-- The measured points as one list: what the rules give, beside what was measured.
use Rattle.std.specs.Prelude.{◌≡◌, ℕ, zero, suc, false, List, [], ◌∷◌, slice_index_or}
use Rattle.arrays.specs.Store.{Store}
use Rattle.rules.specs.Registers.{weighs}
use Rattle.rules.specs.Seal.{covers}
use Rattle.rules.specs.Rows.{row_address, row_page}
use Rattle.rules.specs.Chip.{Chip, reached, blank_buffer}
use Rattle.rules.specs.Outcomes.{outcome_number}
use Rattle.rules.specs.Calls.{transact, step, new_card}

-- n blocks of p pages, all bytes FFh and all lives 3
abbrev store : ℕ → ℕ → Store
store n p = record { blocks = n; pages = p; page = λ _ _. blank_buffer; life = λ _. 3 }

abbrev card : Chip
card = new_card (store 1024 64) (store 1 16)

-- with /WP high: the card after a transaction, its outcome, and what it leaves in an area of n bytes
abbrev did : Chip → List ℕ → Chip
did c sent = (transact c sent false 0).chip

abbrev outcome : Chip → List ℕ → List ℕ
outcome c sent = outcome_number (transact c sent false 0).outcome ∷ []

abbrev area : Chip → List ℕ → ℕ → List ℕ
area c sent n = (transact c sent false n).area

-- the outcome and the count of driven bytes
abbrev drove : Chip → List ℕ → ℕ → List ℕ
drove c sent n = let r = transact c sent false n in outcome_number r.outcome ∷ r.driven ∷ []

abbrev stepped : ℕ → Chip → Chip
stepped zero c = c
stepped (suc n) c = stepped n (step c).chip

-- is the address covered, of 1,024
abbrev sealed_at : ℕ → ℕ → ℕ
sealed_at sr1 x = weighs (covers 1024 sr1 x) 1

-- SR-1 00h; then a finished swap of 5 and 7; then one of 5 and 9
abbrev open_card : Chip
open_card = did card (0x01 ∷ 0xA0 ∷ 0x00 ∷ [])

abbrev linked_card : Chip
linked_card = stepped 2 (did open_card (0xA1 ∷ 0 ∷ 5 ∷ 0 ∷ 7 ∷ []))

abbrev relinked : Chip
relinked = stepped 2 (did linked_card (0xA1 ∷ 0 ∷ 5 ∷ 0 ∷ 9 ∷ []))

-- byte v programmed at column 3 of row 0
abbrev programmed : ℕ → Chip → Chip
programmed v c = stepped 4 (did (did (did c (0x06 ∷ [])) (0x02 ∷ 0 ∷ 3 ∷ v ∷ [])) (0x10 ∷ 0 ∷ 0 ∷ 0 ∷ []))

abbrev pub given : List (List ℕ)
given =
    area card (0x05 ∷ 0xA0 ∷ []) 1
    ∷ area card (0x05 ∷ 0xB0 ∷ []) 1
    ∷ outcome (did card (0x06 ∷ [])) (0x10 ∷ 0 ∷ 0 ∷ 0 ∷ [])
    ∷ area (did (did card (0x06 ∷ [])) (0x10 ∷ 0 ∷ 0 ∷ 0 ∷ [])) (0x05 ∷ 0xC0 ∷ []) 1
    ∷ (sealed_at 0x08 1022 ∷ sealed_at 0x08 1021 ∷ [])
    ∷ (sealed_at 0x4C 511 ∷ sealed_at 0x4C 512 ∷ [])
    ∷ drove card (0x03 ∷ 0x08 ∷ 0x3E ∷ 0 ∷ []) 4
    ∷ drove card (0x03 ∷ 0x08 ∷ 0x40 ∷ 0 ∷ []) 4
    ∷ (row_address 4 2 9 ∷ row_page 4 2 9 ∷ [])
    ∷ area linked_card (0xA5 ∷ 0 ∷ []) 4
    ∷ outcome linked_card (0xA1 ∷ 0 ∷ 7 ∷ 0 ∷ 8 ∷ [])
    ∷ outcome linked_card (0xA1 ∷ 0 ∷ 5 ∷ 0 ∷ 7 ∷ [])
    ∷ outcome linked_card (0xA1 ∷ 0 ∷ 5 ∷ 0 ∷ 5 ∷ [])
    ∷ area relinked (0xA5 ∷ 0 ∷ []) 4
    ∷ (reached relinked.lasting 7 ∷ reached relinked.lasting 9 ∷ [])
    ∷ (slice_index_or ((programmed 0xF0 (programmed 0x0F open_card)).lasting.main.page 0 0) 3 1 ∷ [])
    ∷ []

abbrev pub measured : List (List ℕ)
measured =
    (0x7C ∷ [])
    ∷ (0x18 ∷ [])
    ∷ (11 ∷ [])
    ∷ (0x08 ∷ [])
    ∷ (1 ∷ 0 ∷ [])
    ∷ (1 ∷ 0 ∷ [])
    ∷ (0 ∷ 2 ∷ [])
    ∷ (0 ∷ 0 ∷ [])
    ∷ (0 ∷ 1 ∷ [])
    ∷ (0x80 ∷ 0x05 ∷ 0x00 ∷ 0x07 ∷ [])
    ∷ (13 ∷ [])
    ∷ (13 ∷ [])
    ∷ (12 ∷ [])
    ∷ (0xC0 ∷ 0x05 ∷ 0x00 ∷ 0x07 ∷ [])
    ∷ (7 ∷ 5 ∷ [])
    ∷ (0 ∷ [])
    ∷ []

abbrev pub AsMeasured : Type 0
AsMeasured = given ≡ measured
