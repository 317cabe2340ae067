use Rattle.rules.proofs.Runs.{calibrated}
use Rattle.rules.proofs.law.prove_calibration.Goals as goal

pub returns : goal.returns
returns c = calibrated
