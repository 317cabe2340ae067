use Rattle.std.proofs.Common.{◌≡◌, ◌+◌, ◌≤◌, drop}
use Rattle.bench.specs.Compared.{places_where}
use Rattle.bench.proofs.compare.Test.count.Given as goal

-- what is counted and what is still to be counted make the whole
abbrev pub invariant-loop-i : goal.invariant-loop-i
invariant-loop-i g l =
    let test = g.Self.Test.test in
    (l.count ≤ l.i) × (l.count + places_where test (drop l.i l.old) (drop l.i l.new) ≡ places_where test l.old l.new)
