use Rattle.std.proofs.Common.{ap, ◌∙◌}
use Rattle.rules.specs.Calls.{uncounted}
use Rattle.rules.proofs.Answered.{tells_outcome}
use Rattle.seals.specs.SealedVisit.{sr1_written}
use Rattle.job.proofs.sr1.write_sr1.Goals as goal

pub returns : goal.returns
unfolding sr1_written
returns g c = record {
  chip = c.transact-answer.ensures.chip;
  outcome = c.uncounted.ensures ∙ ap uncounted c.transact-answer.ensures.answer ∙ tells_outcome _ _;
}
