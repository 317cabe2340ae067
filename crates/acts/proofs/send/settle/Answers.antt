use Rattle.std.proofs.Common.{sym, ap, ◌∙◌}
use Rattle.rules.specs.Chip.{Chip}
use Rattle.acts.specs.Acts.{settled}
use Rattle.acts.proofs.Settling.{last_step, earlier_step}
use Rattle.acts.proofs.send.settle.Goals as goal

pub loop-preserved : goal.loop-preserved
loop-preserved g c =
    let now : Chip = g.C.StoreCard.chip c.loop.card in
    ap settled c.step.ensures.after ∙ (earlier_step now (λ e. c.loop-test.true (c.step.ensures.left ∙ e)) ∙ c.loop.invariant)

pub returns : goal.returns
returns g c =
    let now : Chip = g.C.StoreCard.chip c.loop.card in
    c.step.ensures.after ∙ (last_step now (sym c.step.ensures.left ∙ c.loop-test.false) ∙ c.loop.invariant)
