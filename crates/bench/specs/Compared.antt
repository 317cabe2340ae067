-- How two pages are compared, place by place.
use Rattle.std.specs.Prelude.{ℕ, Bool, not, List, ◌==◌, bit_and, count_by, zip}

-- both bytes are equal
abbrev pub equal : ℕ → ℕ → Bool
equal old new = old == new

-- a bit rose where the new byte has a 1 that the old one has not
abbrev pub risen : ℕ → ℕ → Bool
risen old new = not (bit_and old new == new)

-- in how many places of both lists the test holds
abbrev pub places_where : (ℕ → ℕ → Bool) → List ℕ → List ℕ → ℕ
places_where test old new = count_by (λ (place : ℕ × ℕ). test place.0 place.1) (zip old new)
