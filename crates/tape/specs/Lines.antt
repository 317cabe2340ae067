-- The grammar of a line: what a record asks for, or none if the line is no record.
use Rattle.std.specs.Prelude.{ℕ, ◌+◌, ◌-◌, ◌*◌, ◌%◌, Bool, cond, ◌&&◌, ◌||◌, List, length, drop, Some, None, Option, ◌==◌, nat_le, slice_index}
use Rattle.tape.specs.Hex.{is_digit, all_hex, bytes_in}

-- a transaction has whether /WP is low, the length of its area and the sent bytes
pub data Request : Type 0 where
  transaction : Bool → ℕ → List ℕ → Request
  step : Request
  power : Request

-- ST is 83 84, PW is 80 87, TX is 84 88, and a blank is 32
abbrev pub is_mark : ℕ → ℕ → List ℕ → Bool
is_mark a b line = length line == 2 && (slice_index line 0 == a && slice_index line 1 == b)

-- 0 or 1
abbrev pub is_level : ℕ → Bool
is_level d = d == 48 || d == 49

-- TX, blank, level, blank, digit, digit, blank
abbrev pub is_head : List ℕ → Bool
is_head line = slice_index line 0 == 84 && (slice_index line 1 == 88 && (slice_index line 2 == 32 && (is_level (slice_index line 3) && (slice_index line 4 == 32 && (is_digit (slice_index line 5) && (is_digit (slice_index line 6) && slice_index line 7 == 32))))))

-- of two digits
abbrev pub number_of : ℕ → ℕ → ℕ
number_of tens units = 10 * (tens - 48) + (units - 48)

abbrev pub area_length : List ℕ → ℕ
area_length line = number_of (slice_index line 5) (slice_index line 6)

-- at most 64 bytes, two digits for each
abbrev pub are_bytes : List ℕ → Bool
are_bytes ds = nat_le (length ds) 128 && (length ds % 2 == 0 && all_hex ds)

abbrev pub is_transaction : List ℕ → Bool
is_transaction line = nat_le 8 (length line) && (is_head line && (nat_le (area_length line) 64 && are_bytes (drop 8 line)))

abbrev pub transaction_in : List ℕ → Request
transaction_in line = transaction (slice_index line 3 == 48) (area_length line) (bytes_in (drop 8 line))

abbrev pub request_in : List ℕ → Option Request
request_in line = cond (is_mark 83 84 line) (Some step) (cond (is_mark 80 87 line) (Some power) (cond (is_transaction line) (Some (transaction_in line)) None))
