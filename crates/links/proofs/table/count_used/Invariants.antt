use Rattle.std.proofs.Common.{◌≡◌, ◌+◌, ◌≤◌, drop}
use Rattle.links.specs.Links.{used}
use Rattle.links.proofs.table.count_used.Given as goal

abbrev pub invariant-loop-e : goal.invariant-loop-e
invariant-loop-e l = (l.count ≤ l.e-index) × (l.count + used (drop l.e-index l.entries) ≡ used l.entries)
