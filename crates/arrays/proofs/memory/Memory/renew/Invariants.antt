use Rattle.std.proofs.Common.{◌≡◌}
use Rattle.arrays.specs.Store.{renewed}
use Rattle.arrays.specs.Kinds.{in_memory, SamePlace}
use Rattle.arrays.proofs.memory.Memory.renew.Given as goal

-- the blocks before this one are new, on the same bytes
abbrev pub invariant-loop-block : goal.invariant-loop-block
invariant-loop-block l = (in_memory l.self ≡ renewed (in_memory l.initial.self) l.block l.life) × SamePlace l.initial.self l.self
