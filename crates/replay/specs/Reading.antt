-- A tape that is read byte by byte: each 0Ah ends a line, and so does the end if something came after the last 0Ah.
use Rattle.std.specs.Prelude.{ℕ, cond, not, List, [], ◌∷◌, ◌++◌, length, Some, None, Option, ◌==◌}
use Rattle.rules.specs.Chip.{Chip}
use Rattle.replay.specs.Replayed.{chip_after_line, text_after_line}

-- the card, and what came since the last 0Ah
pub record Reading : Type 0 where
  pub chip : Chip
  pub line : List ℕ

abbrev pub at_start : Chip → Reading
at_start c = record { chip = c; line = [] }

-- 0Ah makes the call of the line and begins the next one; another byte is one more of the line
abbrev pub after_byte : Reading → ℕ → Reading
after_byte s byte = record { chip = cond (byte == 10) (chip_after_line s.chip s.line) s.chip; line = cond (byte == 10) [] (s.line ++ (byte ∷ [])) }

abbrev pub text_after_byte : Reading → ℕ → Option (List ℕ)
text_after_byte s byte = cond (byte == 10) (Some (text_after_line s.chip s.line)) None

-- the end is as a last 0Ah, unless nothing came after the one before
abbrev pub after_end : Reading → Reading
after_end s = cond (not (length s.line == 0)) (after_byte s 10) s

abbrev pub text_at_end : Reading → Option (List ℕ)
text_at_end s = cond (not (length s.line == 0)) (text_after_byte s 10) None
