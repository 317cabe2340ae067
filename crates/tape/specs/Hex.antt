-- Bytes in upper-case hexadecimal, two digits for each, the high one first.
use Rattle.std.specs.Prelude.{ℕ, ◌+◌, ◌-◌, ◌*◌, ◌/◌, ◌%◌, Bool, cond, ◌&&◌, ◌||◌, List, [], ◌∷◌, nat_le, nat_lt}
use Rattle.std.specs.List.{flat_map, list_all}

-- 0 to 9
abbrev pub is_digit : ℕ → Bool
is_digit d = nat_le 48 d && nat_le d 57

-- A to F
abbrev pub is_letter : ℕ → Bool
is_letter d = nat_le 65 d && nat_le d 70

abbrev pub is_hex : ℕ → Bool
is_hex d = is_digit d || is_letter d

abbrev pub all_hex : List ℕ → Bool
all_hex ds = list_all is_hex ds

-- ---- from digits to bytes

-- 0 where it is no digit
abbrev pub hex_value : ℕ → ℕ
hex_value d = cond (is_digit d) (d - 48) (cond (is_letter d) (d - 55) 0)

-- the bytes that the digits stand for; an odd digit at the end stands for none
abbrev pub bytes_in : List ℕ → List ℕ
bytes_in [] = []
bytes_in (d ∷ []) = []
bytes_in (high ∷ low ∷ ds) = (16 * hex_value high + hex_value low) ∷ bytes_in ds

-- ---- from bytes to digits

-- of a number below 16
abbrev pub hex_digit : ℕ → ℕ
hex_digit n = cond (nat_lt n 10) (48 + n) (55 + n)

abbrev pub hex_byte : ℕ → List ℕ
hex_byte b = hex_digit (b / 16) ∷ hex_digit (b % 16) ∷ []

abbrev pub hex_text : List ℕ → List ℕ
hex_text bs = flat_map hex_byte bs
