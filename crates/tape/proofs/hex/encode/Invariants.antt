use Rattle.std.proofs.Common.{◌≡◌, ◌*◌, take}
use Rattle.tape.specs.Hex.{hex_text}
use Rattle.tape.proofs.hex.encode.Given as goal

-- The digits of the first bytes are written.
abbrev pub invariant-loop-i : goal.invariant-loop-i
invariant-loop-i l = take (2 * l.i) l.digits ≡ hex_text (take l.i l.bytes)
