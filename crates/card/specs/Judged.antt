-- The refusals that depend on an instruction's own values: 6 to 15.
use Rattle.std.specs.Prelude.{Bool, true, false, drop}
use Rattle.frames.specs.Frames.{Told}
use Rattle.rules.specs.Outcomes.{Outcome}
use Rattle.rules.specs.Chip.{Chip}
use Rattle.rules.specs.Refusals.{first, refusals}

-- the first of them that holds, for an instruction that fit, frame, counter and pin let through
abbrev pub judged : Chip → Bool → Told → Outcome
judged c low i = first (drop 5 (refusals c low i true true false))
