use Rattle.std.proofs.Common.{◌≡◌, ◌++◌, take, drop}
use Rattle.links.specs.Links.{retire}
use Rattle.links.proofs.swap.retire_link.Given as goal

abbrev pub invariant-loop-e : goal.invariant-loop-e
invariant-loop-e l = l.entries ≡ retire l.first (take l.e-index l.initial.entries) ++ drop l.e-index l.initial.entries
