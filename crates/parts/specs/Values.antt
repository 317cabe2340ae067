-- What 9Fh drives.
use Rattle.std.specs.Prelude.{ℕ, List, [], ◌∷◌}

abbrev pub identity : List ℕ
identity = 0xEF ∷ 0xBA ∷ 0x21 ∷ []
