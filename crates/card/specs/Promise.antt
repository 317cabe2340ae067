-- The law of sealed calibration for one card: over every run of calls that begins with it.
use Rattle.arrays.specs.Store.{Store}
use Rattle.rules.specs.Law.{Moment, Run, Calibrated, new}

-- a new card over two arrays, and its book: a, b and c hold at every moment that calls lead to, and over every stretch from there
abbrev pub CalibrationKept : Store → Store → Type 0
CalibrationKept main otp = (i j : Moment) → Run (new main otp) i → (r : Run i j) → Calibrated main i j r
