-- How a record is written, and that exactly the lines so written are records.
use Rattle.std.specs.Prelude.{◌≡◌, ℕ, ◌+◌, ◌/◌, ◌%◌, ◌<◌, ◌≤◌, cond, List, [], ◌∷◌, length, Some}
use Rattle.std.specs.List.{AllByRecursion}
use Rattle.tape.specs.Hex.{hex_text}
use Rattle.tape.specs.Lines.{Request, transaction, step, power, request_in}

-- TX, blank, level, blank, two decimal digits, blank, and two hexadecimal digits for each sent byte; ST; PW
abbrev pub line_of : Request → List ℕ
line_of (transaction low n sent) = 84 ∷ 88 ∷ 32 ∷ cond low 48 49 ∷ 32 ∷ (48 + n / 10) ∷ (48 + n % 10) ∷ 32 ∷ hex_text sent
line_of step = 83 ∷ 84 ∷ []
line_of power = 80 ∷ 87 ∷ []

-- at most 64 bytes of area, and at most 64 bytes sent
abbrev pub Sound : Request → Type 0
Sound (transaction low n sent) = (n ≤ 64) × (length sent ≤ 64) × AllByRecursion (λ b. b < 256) sent
Sound step = Unit {0}
Sound power = Unit {0}

pub record Exact : Type 0 where
  pub written_is_read : (r : Request) → Sound r → request_in (line_of r) ≡ Some r
  pub read_is_written : (line : List ℕ) (r : Request) → request_in line ≡ Some r → (line ≡ line_of r) × Sound r
