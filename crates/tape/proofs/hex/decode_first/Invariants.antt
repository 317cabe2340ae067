use Rattle.std.proofs.Common.{◌≡◌, ◌++◌, take, drop}
use Rattle.tape.specs.Hex.{bytes_in}
use Rattle.tape.proofs.hex.decode_first.Given as goal

-- The first bytes are decoded, and the others as they were.
abbrev pub invariant-loop-i : goal.invariant-loop-i
invariant-loop-i l = l.byte-items ≡ take l.i (bytes_in l.digits) ++ drop l.i l.initial.byte-items
