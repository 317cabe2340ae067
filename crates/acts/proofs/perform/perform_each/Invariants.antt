use Rattle.std.proofs.Common.{◌≡◌, drop}
use Rattle.acts.specs.Acts.{through, parts_of}
use Rattle.acts.proofs.perform.perform_each.Given as goal

-- what is left of the acts leads to where all of them lead
abbrev pub invariant-loop-act : goal.invariant-loop-act
invariant-loop-act g l =
    through (g.C.StoreCard.chip l.card) l.low l.area (parts_of (drop l.act-index l.acts))
    ≡ through (g.C.StoreCard.chip l.initial.card) l.low l.initial.area (parts_of l.acts)
