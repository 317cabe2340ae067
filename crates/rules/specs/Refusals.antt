-- The fifteen refusals, from top to bottom: the first one whose condition holds gives the outcome.
use Rattle.std.specs.Prelude.{ℕ, Bool, false, cond, not, ◌&&◌, ◌||◌, List, [], ◌∷◌, Some, None, Ok, Err, Option, nat_lt}
use Rattle.links.specs.Links.{partner, full, outside, taken as in_links}
use Rattle.frames.specs.Frames.{Told, told, listed, count_right, write_frame, quad_frame}
use Rattle.rules.specs.declared.refusal.Refusal.{Refusal}
use Rattle.rules.specs.declared.refusal.Refusal.TheVariants.{Unfit, UnlistedCode, WrongCount, Busy, PinProtected, UnknownRegister, RegisterProtected, LockForbidden, LatchClear, RowOutside, RowProtected, SwapOutside, SwapLinked, TableFull, SwapSealed}
use Rattle.rules.specs.Outcomes.{Outcome}
use Rattle.rules.specs.Registers.{srp0, srp1, wp_e, power_lock, is_sr1, is_sr2, is_sr3, new_otp_l, new_sr1_l}
use Rattle.rules.specs.Rows.{row_address}
use Rattle.rules.specs.Chip.{Lasting, Chip, busy as is_busy, fit, sealed}
use Rattle.rules.specs.Asked.{at_register, at_write, at_swap, at_rows, taken_while_busy, needs_latch}

infix 20 ◌when◌
pub data Rung : Type 0 where
  ◌when◌ : Refusal → Bool → Rung

abbrev pub first : List Rung → Outcome
first [] = Ok tt
first ((refusal when holds) ∷ rungs) = cond holds (Err refusal) (first rungs)

-- 5: a quad code at any level of /WP, a writing one while it is low
abbrev pub pin_code : Bool → List ℕ → Bool
pin_code low sent = quad_frame sent || (low && write_frame sent)

-- 11: OTP rows 0 and 1 are never programmed
abbrev pub is_fixed_row : ℕ → Bool
is_fixed_row row = nat_lt row 2

-- 10: rows 0 to 11 of the OTP array can be named
abbrev pub is_outer_row : ℕ → Bool
is_outer_row row = nat_lt 11 row

module _ (c : Chip) where
  abbrev l : Lasting
  l = c.lasting

  abbrev sr1 : ℕ
  sr1 = c.passing.sr1

  abbrev otp_e : Bool
  otp_e = c.passing.flags.otp_e

  -- the address of a row is under the seal
  abbrev pub sealed_row : ℕ → Bool
  sealed_row row = sealed l sr1 (row_address l.main.blocks l.main.pages row)

  -- 7: SR-1 cannot be written, with /WP low or not
  abbrev pub sr1_shut : Bool → Bool
  sr1_shut low = l.sr1_l || (power_lock sr1 || ((not (srp1 sr1) && srp0 sr1) && (not (wp_e sr1) && low)))

  -- 8: a lock bit is new with OTP-E 0, or SR1-L is new while SRP1 and SRP0 are not both 1
  abbrev pub lock_shut : ℕ → Bool
  lock_shut v = ((new_otp_l l.otp_l v || new_sr1_l l.sr1_l v) && not otp_e) || (new_sr1_l l.sr1_l v && not (srp1 sr1 && srp0 sr1))

  -- 15: the seal covers the partner
  abbrev pub partner_sealed : Option ℕ → Bool
  partner_sealed None = false
  partner_sealed (Some x) = sealed l sr1 x

  -- with /WP low or not, for an instruction: whether its code is listed, the count of sent bytes right, and the code one for the pin to refuse
  abbrev pub refusals : Bool → Told → Bool → Bool → Bool → List Rung
  refusals low i known right pin =
      (Unfit when not (fit l))
      ∷ (UnlistedCode when not known)
      ∷ (WrongCount when not right)
      ∷ (Busy when is_busy c.passing.pending && not (taken_while_busy i))
      ∷ (PinProtected when wp_e sr1 && pin)
      ∷ (UnknownRegister when at_register i (λ a. not (is_sr1 a || (is_sr2 a || is_sr3 a))))
      ∷ (RegisterProtected when at_write i (λ a v. is_sr1 a && sr1_shut low))
      ∷ (LockForbidden when at_write i (λ a v. is_sr2 a && lock_shut v))
      ∷ (LatchClear when needs_latch i && not c.passing.flags.wel)
      ∷ (RowOutside when otp_e && at_rows i is_outer_row (λ _. false) is_outer_row)
      ∷ (RowProtected when at_rows i (λ row. cond otp_e (is_fixed_row row || l.otp_l) (sealed_row row)) (λ row. otp_e || sealed_row row) (λ _. false))
      ∷ (SwapOutside when at_swap i (λ a b. outside l.main.blocks a b))
      ∷ (SwapLinked when at_swap i (λ a b. in_links a b l.links))
      ∷ (TableFull when at_swap i (λ a b. full l.links))
      ∷ (SwapSealed when at_swap i (λ a b. sealed l sr1 a || (sealed l sr1 b || partner_sealed (partner l.main.blocks l.links a))))
      ∷ []

  abbrev pub outcome : Bool → List ℕ → Outcome
  outcome low sent = first (refusals low (told sent) (listed sent) (count_right sent) (pin_code low sent))
