use Rattle.std.proofs.Common.{◌≡◌}
use Rattle.bench.specs.Steps.{erase_times, erases_done}
use Rattle.bench.proofs.steps.erase_up_to.Given as goal

-- so many erases were tried, and all of them were done
abbrev pub invariant-loop-done : goal.invariant-loop-done
invariant-loop-done g l =
    (g.A.Array.meaning l.array ≡ erase_times l.done (g.A.Array.meaning l.initial.array) l.block)
    × (erases_done (g.A.Array.meaning l.initial.array) l.block l.done ≡ l.done)
