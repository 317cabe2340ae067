use Rattle.std.proofs.Common.{ap, ◌∙◌}
use Rattle.rules.specs.Chip.{Chip}
use Rattle.seals.specs.SealedVisit.{sr1_written}
use Rattle.job.proofs.checked.write_seal.Goals as goal

pub returns : goal.returns
returns g c =
    let before : Chip = g.C.StoreCard.chip c.args.card.now in
    record {
      chip = c.write_sr1.ensures.chip ∙ ap (λ v. (sr1_written before c.args.low v).chip) c.seal_byte.ensures;
      outcome = c.write_sr1.ensures.outcome ∙ ap (λ v. (sr1_written before c.args.low v).outcome) c.seal_byte.ensures;
      law = c.seals_stand-holds.ensures.law before c.args.low c.args.byte;
    }
