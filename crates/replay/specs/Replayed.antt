-- What a line does to a card, and what it prints.
use Rattle.std.specs.Prelude.{ℕ, List, Some, None, decimal, Option}
use Rattle.rules.specs.Chip.{Chip}
use Rattle.rules.specs.Outcomes.{outcome_number}
use Rattle.rules.specs.Calls as calls
use Rattle.rules.specs.Calls.{Reply, transact, power_cycle}
use Rattle.tape.specs.Lines.{Request, transaction, step, power, request_in}
use Rattle.tape.specs.Answers.{transaction_text, unknown_text}

-- outcome, driven count and area
abbrev pub reply_text : Reply → List ℕ
reply_text r = transaction_text (outcome_number r.outcome) r.driven r.area

abbrev pub chip_after_request : Chip → Request → Chip
chip_after_request c (transaction low n sent) = (transact c sent low n).chip
chip_after_request c step = (calls.step c).chip
chip_after_request c power = power_cycle c

-- a step prints the steps left, and a power cycle 0
abbrev pub text_after_request : Chip → Request → List ℕ
text_after_request c (transaction low n sent) = reply_text (transact c sent low n)
text_after_request c step = decimal (calls.step c).left
text_after_request c power = decimal 0

-- a line that is no record leaves the card
abbrev pub chip_after_any : Chip → Option Request → Chip
chip_after_any c (Some request) = chip_after_request c request
chip_after_any c None = c

abbrev pub text_after_any : Chip → Option Request → List ℕ
text_after_any c (Some request) = text_after_request c request
text_after_any c None = unknown_text

abbrev pub chip_after_line : Chip → List ℕ → Chip
chip_after_line c line = chip_after_any c (request_in line)

abbrev pub text_after_line : Chip → List ℕ → List ℕ
text_after_line c line = text_after_any c (request_in line)
