use Rattle.std.proofs.Common.{◌≡◌, ◌*◌, take}
use Rattle.links.specs.Links.{table_bytes}
use Rattle.links.proofs.table.write_bytes.Given as goal

abbrev pub invariant-loop-i : goal.invariant-loop-i
invariant-loop-i l = take (4 * l.i) l.area ≡ table_bytes (take l.i l.entries)
