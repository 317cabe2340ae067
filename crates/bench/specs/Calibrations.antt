-- How a page begins with a calibration: the mark CA, then zero and span as four bytes each, high byte first.
use Rattle.std.specs.Prelude.{ℕ, ◌+◌, ◌*◌, ◌/◌, ◌%◌, cond, ◌&&◌, List, [], ◌∷◌, ◌++◌, length, Some, None, codes, Option, ◌==◌, nat_le, slice_index}
use Rattle.bench.specs.declared.calibration.Calibration.{Calibration}

-- four bytes of a number, high byte first, and the number that stands in four bytes from i on
abbrev pub four : ℕ → List ℕ
four n = (n / 16777216 % 256) ∷ (n / 65536 % 256) ∷ (n / 256 % 256) ∷ (n % 256) ∷ []

abbrev pub number_at : ℕ → List ℕ → ℕ
number_at i xs = slice_index xs i * 16777216 + slice_index xs (i + 1) * 65536 + slice_index xs (i + 2) * 256 + slice_index xs (i + 3)

-- the ten bytes with which a page begins
abbrev pub record_of : Calibration → List ℕ
record_of c = codes "CA" ++ (four c.zero ++ four c.span)

abbrev pub found_in : List ℕ → Option Calibration
found_in xs = cond (nat_le 10 (length xs) && (slice_index xs 0 == 67 && slice_index xs 1 == 65)) (Some (record { zero = number_at 2 xs; span = number_at 6 xs })) None
