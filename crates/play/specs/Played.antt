-- A list of calls on one card: the run that they make, and what they answer.
use Rattle.std.specs.Prelude.{◌≡◌, ℕ, List, [], ◌∷◌, length, Ok, Err, Result}
use Rattle.arrays.specs.Store.{Store}
use Rattle.rules.specs.Chip.{Chip}
use Rattle.rules.specs.declared.refusal.Refusal.{Refusal}
use Rattle.rules.specs.Outcomes.{refusal_number}
use Rattle.rules.specs.Calls.{transact, answer, step, power_cycle, new_card}
use Rattle.rules.specs.Law as law
use Rattle.rules.specs.Law.{Moment, Run, transaction, one_step, power_cycled, next, new}
use Rattle.play.specs.declared.call.Answer.{Answer}
use Rattle.play.specs.declared.call.Answer.TheVariants.{Driven, Refused, Left, Powered}
use Rattle.play.specs.declared.call.Call.{Call}
use Rattle.play.specs.declared.call.Call.TheVariants.{Transaction, Step, PowerCycle}

-- the call as the rules have it; every transaction has an area of n bytes
abbrev pub ruled : ℕ → Call → law.Call
ruled n (Transaction sent low) = transaction sent.now low n
ruled n Step = one_step
ruled n PowerCycle = power_cycled

-- what a transaction answers: the count of driven bytes, or the refusal
abbrev pub sent_answer : Result ℕ Refusal → Answer
sent_answer (Ok driven) = Driven driven
sent_answer (Err refusal) = Refused refusal

-- what a call answers: that of a transaction, the steps left, or that power came back
abbrev pub answer_to : Chip → ℕ → Call → Answer
answer_to c n (Transaction sent low) = sent_answer (answer (transact c sent.now low n))
answer_to c n Step = Left (step c).left
answer_to c n PowerCycle = Powered

-- an answer as a number: the outcome's, the steps left, or 0
abbrev pub number_of : Answer → ℕ
number_of (Driven driven) = 0
number_of (Refused refusal) = refusal_number refusal
number_of (Left left) = left
number_of Powered = 0

-- and the count of driven bytes: nothing is driven by a refused transaction, a step and a power cycle
abbrev pub driven_of : Answer → ℕ
driven_of (Driven driven) = driven
driven_of (Refused refusal) = 0
driven_of (Left left) = 0
driven_of Powered = 0

-- what the area holds after one call
abbrev pub area_after : Chip → Call → List ℕ → List ℕ
area_after c (Transaction sent low) area = (transact c sent.now low (length area)).area
area_after c Step area = area
area_after c PowerCycle area = area

-- the card after one call, and after a list of them
abbrev pub chip_after_call : Chip → ℕ → Call → Chip
chip_after_call c n (Transaction sent low) = (transact c sent.now low n).chip
chip_after_call c n Step = (step c).chip
chip_after_call c n PowerCycle = power_cycle c

abbrev pub chip_after_calls : Chip → ℕ → List Call → Chip
chip_after_calls c n [] = c
chip_after_calls c n (call ∷ calls) = chip_after_calls (chip_after_call c n call) n calls

-- what the area, of n bytes, holds after a list of calls, each of which is lent it
abbrev pub area_after_calls : Chip → ℕ → List Call → List ℕ → List ℕ
area_after_calls c n [] area = area
area_after_calls c n (call ∷ calls) area = area_after_calls (chip_after_call c n call) n calls (area_after c call area)

-- what a list of calls answers
abbrev pub answers_to : Chip → ℕ → List Call → List Answer
answers_to c n [] = []
answers_to c n (call ∷ calls) = answer_to c n call ∷ answers_to (chip_after_call c n call) n calls

-- the moment to which they lead, with the book that is told them
abbrev pub played : Moment → ℕ → List Call → Moment
played m n [] = m
played m n (call ∷ calls) = played (next m (ruled n call)) n calls

-- from a new card they make a run of the law
pub record Made (n : ℕ) (calls : List Call) (main otp : Store) : Type 0 where
  pub run : Run (new main otp) (played (new main otp) n calls)
  pub card : (played (new main otp) n calls).chip ≡ chip_after_calls (new_card main otp) n calls
