-- What sets and clears WEL, P-FAIL, E-FAIL, OTP-E and ECC-E.
use Rattle.std.specs.Prelude.{Bool, true, false, ◌||◌}
use Rattle.rules.specs.declared.flags.Flags.{Flags}

-- after a power cycle
abbrev pub power_up_flags : Flags
power_up_flags = record { otp_e = false; ecc_e = true; wel = false; p_fail = false; e_fail = false }

-- 06h sets WEL, 04h and the last step of a load clear it
abbrev pub with_wel : Bool → Flags → Flags
with_wel on f = record { otp_e = f.otp_e; ecc_e = f.ecc_e; wel = on; p_fail = f.p_fail; e_fail = f.e_fail }

-- FFh clears WEL, both FAIL bits and OTP-E
abbrev pub reset_flags : Flags → Flags
reset_flags f = record { otp_e = false; ecc_e = f.ecc_e; wel = false; p_fail = false; e_fail = false }

-- taking 10h or D8h clears both FAIL bits
abbrev pub no_fails : Flags → Flags
no_fails f = record { otp_e = f.otp_e; ecc_e = f.ecc_e; wel = f.wel; p_fail = false; e_fail = false }

-- the end of a program or an erase clears WEL, and sets the FAIL bit if it failed
abbrev pub program_ended : Bool → Flags → Flags
program_ended failed f = record { otp_e = f.otp_e; ecc_e = f.ecc_e; wel = false; p_fail = failed || f.p_fail; e_fail = f.e_fail }

abbrev pub erase_ended : Bool → Flags → Flags
erase_ended failed f = record { otp_e = f.otp_e; ecc_e = f.ecc_e; wel = false; p_fail = f.p_fail; e_fail = failed || f.e_fail }
