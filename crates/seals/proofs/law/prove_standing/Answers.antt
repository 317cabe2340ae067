use Rattle.seals.proofs.Standing.{standing}
use Rattle.seals.proofs.law.prove_standing.Goals as goal

pub returns : goal.returns
returns c = standing c.sealed_calibration_holds-holds.ensures.law
