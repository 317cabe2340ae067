-- What becomes of a job: its state after each deed, or the fault that it tells.
use Rattle.std.specs.Prelude.{ℕ, Ok, Err, Result}
use Rattle.rules.specs.Outcomes.{Outcome}
use Rattle.faults.specs.declared.fault.Cause.TheVariants as cause
use Rattle.faults.specs.declared.fault.Fault.{Fault}
use Rattle.job.specs.declared.state.Job.{Job}
use Rattle.job.specs.declared.state.Unchecked.{Unchecked}
use Rattle.job.specs.declared.state.ReadBack.{ReadBack}

-- the job keeps the SR-1 that it found; a refused open gives none
abbrev pub opened_by : Result ℕ Fault → Result (Job Unchecked) Fault
opened_by (Ok sr1) = Ok (record { kept = sr1; stage = record {} })
opened_by (Err fault) = Err fault

-- a checked job, or the opened one again
abbrev pub checked_by : Result (Unit {0}) Fault → Job Unchecked → Result (Job ReadBack) (Job Unchecked × Fault)
checked_by (Ok done) job = Ok (record { kept = job.kept; stage = record {} })
checked_by (Err fault) job = Err (job, fault)

-- the job is ended, or the checked one again
abbrev pub sealed_by : Outcome → Job ReadBack → Result (Unit {0}) (Job ReadBack × Fault)
sealed_by (Ok done) job = Ok tt
sealed_by (Err refusal) job = Err (job, record { cause = cause.Refused refusal 0x01; row = 0 })
