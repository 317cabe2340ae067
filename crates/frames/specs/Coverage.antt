-- Every line's count of sent bytes covers the values of its group.
use Rattle.std.specs.Prelude.{ℕ, ◌≤◌, Bool, List, Some, None, Option, nat_le}
use Rattle.std.specs.List.{list_all}
use Rattle.frames.specs.declared.line.Group.{Group}
use Rattle.frames.specs.declared.line.Group.TheVariants.{Plain, ReadRegister, WriteRegister, Swap, AtRow, LoadBuffer, ReadBuffer}
use Rattle.frames.specs.declared.line.Count.{Count}
use Rattle.frames.specs.declared.line.Count.TheVariants.{Exactly, AtLeast}
use Rattle.frames.specs.declared.line.Line.{Line}

abbrev pub least_sent : Count → ℕ
least_sent (Exactly n) = n
least_sent (AtLeast n) = n

-- how many sent bytes hold the code and the values of a group
abbrev pub needed : Group → ℕ
needed (Plain simple) = 1
needed ReadRegister = 2
needed WriteRegister = 3
needed Swap = 5
needed (AtRow operation) = 4
needed (LoadBuffer refill) = 3
needed ReadBuffer = 3

abbrev pub covers : Line → Bool
covers line = nat_le (needed line.1) (least_sent line.2)

abbrev pub all_cover : List Line → Bool
all_cover lines = list_all covers lines

abbrev pub Covered : Option Line → Type 0
Covered None = Unit {0}
Covered (Some line) = needed line.1 ≤ least_sent line.2
