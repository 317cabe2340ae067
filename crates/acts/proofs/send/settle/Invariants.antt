use Rattle.std.proofs.Common.{◌≡◌}
use Rattle.acts.specs.Acts.{settled, awaited}
use Rattle.acts.proofs.send.settle.Given as goal

-- what is still to be stepped leads to where all steps lead
abbrev pub invariant-loop : goal.invariant-loop
invariant-loop g l = settled (g.C.StoreCard.chip l.card) ≡ settled (g.C.StoreCard.chip l.initial.card)

abbrev pub decreases-loop : goal.decreases-loop
decreases-loop g l = awaited (g.C.StoreCard.chip l.card).passing.pending
