-- What a fault tells, by its cause: number, place, code sent last and column.
use Rattle.std.specs.Prelude.{ℕ, List, codes}
use Rattle.rules.specs.Outcomes.{refusal_number, refusal_place, part_word}
use Rattle.faults.specs.declared.fault.Cause.{Cause}
use Rattle.faults.specs.declared.fault.Cause.TheVariants.{Refused, WrongLength, Worn, Differs}
use Rattle.faults.specs.declared.fault.FaultPlace.{FaultPlace}
use Rattle.faults.specs.declared.fault.FaultPlace.TheVariants.{Part, Job}

abbrev pub fault_number : Cause → ℕ
fault_number (Refused refusal code) = refusal_number refusal
fault_number WrongLength = 16
fault_number Worn = 17
fault_number (Differs column) = 18

abbrev pub fault_place : Cause → FaultPlace
fault_place (Refused refusal code) = Part (refusal_place refusal)
fault_place WrongLength = Job
fault_place Worn = Job
fault_place (Differs column) = Job

-- nothing is sent under 16; SR-3 is read before 17, and the page before 18
abbrev pub fault_code : Cause → ℕ
fault_code (Refused refusal code) = code
fault_code WrongLength = 0
fault_code Worn = 0x05
fault_code (Differs column) = 0x03

abbrev pub fault_column : Cause → ℕ
fault_column (Refused refusal code) = 0
fault_column WrongLength = 0
fault_column Worn = 0
fault_column (Differs column) = column

-- the word that a report has for a place
abbrev pub place_word : FaultPlace → List ℕ
place_word (Part part) = part_word part
place_word Job = codes "job"
