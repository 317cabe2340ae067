-- The three registers bit by bit, S7 the highest and S0 the lowest, and which register an address names.
use Rattle.std.specs.Prelude.{ℕ, ◌+◌, ◌/◌, ◌%◌, ◌^◌, Bool, cond, not, ◌&&◌, Ok, Err, Result, ◌==◌}
use Rattle.rules.specs.declared.flags.Flags.{Flags}
use Rattle.rules.specs.declared.refusal.Refusal.{Refusal}
use Rattle.rules.specs.declared.refusal.Refusal.TheVariants.{UnknownRegister}
use Rattle.rules.specs.declared.register.Register.{Register}
use Rattle.rules.specs.declared.register.Register.TheVariants.{Sr1, Sr2, Sr3}

-- bit k of a byte; what a bit adds to it
abbrev pub bit : ℕ → ℕ → ℕ
bit k v = v / 2 ^ k % 2

abbrev pub is_set : ℕ → ℕ → Bool
is_set k v = bit k v == 1

abbrev pub weighs : Bool → ℕ → ℕ
weighs on weight = cond on weight 0

-- ---- SR-1: SRP0, BP3, BP2, BP1, BP0, TB, WP-E, SRP1

abbrev pub srp0 : ℕ → Bool
srp0 = is_set 7

-- the number BP3 BP2 BP1 BP0
abbrev pub bp : ℕ → ℕ
bp sr1 = sr1 / 8 % 16

abbrev pub tb : ℕ → Bool
tb = is_set 2

abbrev pub wp_e : ℕ → Bool
wp_e = is_set 1

abbrev pub srp1 : ℕ → Bool
srp1 = is_set 0

abbrev pub power_lock : ℕ → Bool
power_lock sr1 = srp1 sr1 && not (srp0 sr1)

-- SR-1 after a power cycle, unless SR1-L is 1
abbrev pub power_up_sr1 : ℕ
power_up_sr1 = 0x7C

-- ---- SR-2: OTP-L, OTP-E, SR1-L, ECC-E, BUF and three zeros; BUF reads 1

abbrev pub sr2 : Bool → Bool → Flags → ℕ
sr2 otp_l sr1_l f = weighs otp_l 128 + weighs f.otp_e 64 + weighs sr1_l 32 + weighs f.ecc_e 16 + 8

-- a write sets OTP-E and ECC-E at once
abbrev pub with_sr2 : ℕ → Flags → Flags
with_sr2 v f = record { otp_e = is_set 6 v; ecc_e = is_set 4 v; wel = f.wel; p_fail = f.p_fail; e_fail = f.e_fail }

-- a lock bit is new if it is written 1 where it is 0
abbrev pub new_otp_l : Bool → ℕ → Bool
new_otp_l otp_l v = is_set 7 v && not otp_l

abbrev pub new_sr1_l : Bool → ℕ → Bool
new_sr1_l sr1_l v = is_set 5 v && not sr1_l

-- ---- SR-3: 0, LUT-F, 0, 0, P-FAIL, E-FAIL, WEL, BUSY

abbrev pub sr3 : Bool → Flags → Bool → ℕ
sr3 lut_f f busy = weighs lut_f 64 + weighs f.p_fail 8 + weighs f.e_fail 4 + weighs f.wel 2 + weighs busy 1

-- ---- an address counts by its high digit: A, B, C

abbrev pub is_sr1 : ℕ → Bool
is_sr1 address = address / 16 == 10

abbrev pub is_sr2 : ℕ → Bool
is_sr2 address = address / 16 == 11

abbrev pub is_sr3 : ℕ → Bool
is_sr3 address = address / 16 == 12

abbrev pub register_at : ℕ → Result Register Refusal
register_at address = cond (is_sr1 address) (Ok Sr1) (cond (is_sr2 address) (Ok Sr2) (cond (is_sr3 address) (Ok Sr3) (Err UnknownRegister)))
