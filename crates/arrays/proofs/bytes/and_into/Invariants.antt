use Rattle.std.proofs.Common.{◌≡◌, ◌++◌, take, drop}
use lib.Lanes.{zip2}
use lib.Bits.{bit_and}
use Rattle.arrays.proofs.bytes.and_into.Given as goal

abbrev pub invariant-loop-i : goal.invariant-loop-i
invariant-loop-i l = l.page ≡ zip2 bit_and (take l.i l.initial.page) (take l.i l.bytes) ++ drop l.i l.initial.page
