-- The text of an answer, without the 0Ah that ends it.
use Rattle.std.specs.Prelude.{ℕ, cond, List, [], ◌∷◌, ◌++◌, length, decimal, ◌==◌}
use Rattle.tape.specs.Hex.{hex_text}

-- two question marks
abbrev pub unknown_text : List ℕ
unknown_text = 63 ∷ 63 ∷ []

-- the area after a blank, or nothing if it is empty
abbrev pub area_text : List ℕ → List ℕ
area_text area = cond (length area == 0) [] (32 ∷ hex_text area)

-- outcome, blank and driven count
abbrev pub counts_text : ℕ → ℕ → List ℕ
counts_text outcome driven = decimal outcome ++ (32 ∷ decimal driven)

abbrev pub transaction_text : ℕ → ℕ → List ℕ → List ℕ
transaction_text outcome driven area = counts_text outcome driven ++ area_text area
