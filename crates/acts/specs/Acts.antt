-- What a deed does to a card: transactions and steps in their order, up to the first transaction that is refused.
use Rattle.std.specs.Prelude.{ℕ, zero, suc, max, Bool, List, [], ◌∷◌, length, Some, None, Ok, Err, Option, Result}
use Rattle.rules.specs.declared.operation.Pending.{Pending}
use Rattle.rules.specs.declared.refusal.Refusal.{Refusal}
use Rattle.rules.specs.Chip.{Chip}
use Rattle.rules.specs.Calls.{transact, step}
use Rattle.acts.specs.declared.act.Act.{Act}
use Rattle.acts.specs.declared.act.Act.TheVariants.{Send, Read, Settle}
use Rattle.faults.specs.declared.fault.Cause.{Cause}
use Rattle.faults.specs.declared.fault.Cause.TheVariants as cause

-- the card, what stopped it if anything did, and the area
pub record Course : Type 0 where
  pub chip : Chip
  pub answer : Result (Unit {0}) Cause
  pub area : List ℕ

-- ---- one transaction

-- its code stands first
abbrev pub code_of : List ℕ → ℕ
code_of [] = 0
code_of (code ∷ rest) = code

-- nothing is told of what a taken one gives
abbrev pub answer_by : {A : Type 0} → Result A Refusal → List ℕ → Result (Unit {0}) Cause
answer_by (Ok given) sent = Ok tt
answer_by (Err refusal) sent = Err (cause.Refused refusal (code_of sent))

-- of the sent bytes, with /WP low or not, and an area of n bytes
unfoldable pub sent_to : Chip → List ℕ → Bool → ℕ → Course
sent_to c sent low n = let r = transact c sent low n in record { chip = r.chip; answer = answer_by r.outcome sent; area = r.area }

-- ---- steps until the card is idle

abbrev pub after_steps : ℕ → Chip → Chip
after_steps zero c = c
after_steps (suc n) c = after_steps n (step c).chip

-- how many steps the pending operation takes
abbrev pub awaited : Option Pending → ℕ
awaited None = 0
awaited (Some p) = max 1 p.left

unfoldable pub settled : Chip → Chip
settled c = after_steps (awaited c.passing.pending) c

-- ---- one after the other

-- a transaction with no area, one with the area of the deed, and the steps until idle
pub data Part : Type 0 where
  sends : List ℕ → Part
  reads : List ℕ → Part
  settles : Part

abbrev pub course_of : Chip → Bool → List ℕ → Part → Course
course_of c low area (sends sent) = let s = sent_to c sent low 0 in record { chip = s.chip; answer = s.answer; area = area }
course_of c low area (reads sent) = sent_to c sent low (length area)
course_of c low area settles = record { chip = settled c; answer = Ok tt; area = area }

abbrev pub if_taken : {A : Type 0} → Result (Unit {0}) Cause → A → A → A
if_taken (Ok done) then else = then
if_taken (Err cause) then else = else

-- the rest follows only if this was taken
abbrev pub before : Course → Course → Course
before this rest = record {
  chip = if_taken this.answer rest.chip this.chip;
  answer = if_taken this.answer rest.answer this.answer;
  area = if_taken this.answer rest.area this.area;
}

-- with /WP low or not, and the area as it is
unfoldable pub through : Chip → Bool → List ℕ → List Part → Course
through c low area [] = record { chip = c; answer = Ok tt; area = area }
through c low area (part ∷ parts) = let s = course_of c low area part in before s (through s.chip low s.area parts)

-- ---- acts of the code as values

abbrev pub part_of : Act → Part
part_of (Send sent) = sends sent.now
part_of (Read sent) = reads sent.now
part_of Settle = settles

abbrev pub parts_of : List Act → List Part
parts_of [] = []
parts_of (act ∷ acts) = part_of act ∷ parts_of acts
