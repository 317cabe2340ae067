-- How a deed ends, when its transactions are made.
use Rattle.std.specs.Prelude.{ℕ, cond, not, List, Some, None, Ok, Err, Option, Result, ◌==◌}
use Rattle.std.specs.List.{position, zip}
use Rattle.rules.specs.Registers.{is_set}
use Rattle.faults.specs.declared.fault.Cause.{Cause}
use Rattle.faults.specs.declared.fault.Cause.TheVariants.{Worn, Differs}
use Rattle.faults.specs.declared.fault.Fault.{Fault}

-- 17: S3 of SR-3 is P-FAIL
abbrev pub unless_worn : Result (Unit {0}) Cause → ℕ → Result (Unit {0}) Cause
unless_worn (Ok done) sr3 = cond (is_set 3 sr3) (Err Worn) (Ok tt)
unless_worn (Err cause) sr3 = Err cause

-- the first column at which two pages differ
abbrev pub first_difference : List ℕ → List ℕ → Option ℕ
first_difference xs ys = position (λ pair. not (pair.0 == pair.1)) (zip xs ys)

abbrev pub unless_found : Option ℕ → Result (Unit {0}) Cause
unless_found None = Ok tt
unless_found (Some column) = Err (Differs column)

-- 18: the page that was read, and the bytes that it should hold
abbrev pub unless_different : Result (Unit {0}) Cause → List ℕ → List ℕ → Result (Unit {0}) Cause
unless_different (Ok done) page bytes = unless_found (first_difference page bytes)
unless_different (Err cause) page bytes = Err cause

-- a fault tells the row
abbrev pub told_at : {A : Type 0} → ℕ → Result A Cause → Result A Fault
told_at row (Ok value) = Ok value
told_at row (Err cause) = Err (record { cause = cause; row = row })

-- what was read, if all was taken
abbrev pub value_if_taken : Result (Unit {0}) Cause → ℕ → Result ℕ Cause
value_if_taken (Ok done) value = Ok value
value_if_taken (Err cause) value = Err cause
