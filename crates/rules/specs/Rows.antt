-- What a row names: with OTP-E 0 a page of the main array, taken modulo N × P, with OTP-E 1 a page of the OTP array.
use Rattle.std.specs.Prelude.{ℕ, ◌*◌, ◌/◌, ◌%◌, Bool, cond}
use Rattle.rules.specs.declared.operation.Place.{Place}
use Rattle.rules.specs.declared.operation.Place.TheVariants.{Main, Otp}

-- of n blocks of p pages
abbrev pub row_address : ℕ → ℕ → ℕ → ℕ
row_address n p row = row % (n * p) / p

abbrev pub row_page : ℕ → ℕ → ℕ → ℕ
row_page n p row = row % (n * p) % p

abbrev pub row_place : Bool → ℕ → ℕ → ℕ → Place
row_place otp_e n p row = cond otp_e (Otp row) (Main (row_address n p row) (row_page n p row))
