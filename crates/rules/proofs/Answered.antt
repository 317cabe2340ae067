-- What the answer to a transaction tells: the outcome and the count of driven bytes, which is 0 where it is refused.
use Rattle.std.proofs.Common.{◌≡◌, ℕ, ◌≤◌, min, length, Ok, Err, refl, arith}
use Rattle.std.specs.Result.{result_unwrap_or}
use Rattle.frames.specs.Frames.{Told}
use Rattle.rules.specs.Chip.{Chip}
use Rattle.rules.specs.Outcomes.{Outcome, outcome_number}
use Rattle.rules.specs.Calls.{reply, answer, driven_unless_refused, uncounted, drives_by}

pub tells_outcome : (o : Outcome) (driven : ℕ) → uncounted (driven_unless_refused o driven) ≡ o
tells_outcome (Ok done) driven = refl
tells_outcome (Err refusal) driven = refl

pub tells_number : (o : Outcome) (driven : ℕ) → outcome_number (driven_unless_refused o driven) ≡ outcome_number o
tells_number (Ok done) driven = refl
tells_number (Err refusal) driven = refl

pub tells_driven : (c : Chip) (i : Told) (o : Outcome) (n : ℕ) → result_unwrap_or (answer (reply c i o n)) 0 ≡ (reply c i o n).driven
tells_driven c i (Ok done) n = refl
tells_driven c i (Err refusal) n = omega arith

pub driven_fits : (c : Chip) (i : Told) (o : Outcome) (n : ℕ) → (reply c i o n).driven ≤ n
driven_fits c i o n = let most : min n (length (drives_by c n i o)) ≤ n = omega arith in most
