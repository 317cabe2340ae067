-- What the code's own reader stands for.
use Rattle.std.specs.Prelude.{◌≡◌, take}
use Rattle.rules.specs.Chip.{Chip}
use Rattle.replay.specs.declared.reader.Reader.{Reader}
use Rattle.replay.specs.Reading.{Reading}

-- of a long line it keeps the first 137 bytes; `chip` gives its card as a chip
pub record Shows {Kind : Type 0} (chip : Kind → Chip) (reader : Reader Kind) (s : Reading) : Type 0 where
  pub card : chip reader.card ≡ s.chip
  pub line : reader.line ≡ take 137 s.line
