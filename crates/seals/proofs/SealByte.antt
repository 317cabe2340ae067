-- The byte with which a job seals, bit by bit.
use Rattle.std.proofs.Common.{◌≡◌, ℕ, ◌+◌, ◌*◌, ◌/◌, ◌%◌, ◌^◌, max, true, false, cond, not, ◌&&◌, eqb, ap, ◌∙◌, arith, eq-eqb, ne_eqb}
use lib.Bits.{bit_or, and_mask, or_step, or_zero_r}
use Rattle.rules.specs.Registers.{bp, tb, srp0, srp1, power_lock}
use Rattle.rules.specs.Seal.{covers, covers_part}
use Rattle.seals.specs.SealedVisit.{seal_byte}

-- as a number
seal_number : (b : ℕ) → seal_byte b ≡ b % 128 / 2 * 2 + 1
seal_number b =
    let one : max (b % 128 % 2) 1 ≡ 1 = omega arith in
    ap (λ n. bit_or n 1) (and_mask b 7)
    ∙ (or_step (b % 128) 1 ∙ (ap (λ q. q * 2 + max (b % 128 % 2) 1) (or_zero_r (b % 128 / 2)) ∙ ap (λ r. b % 128 / 2 * 2 + r) one))

-- S0 is 1 and S7 is 0
pub seal_locks : (b : ℕ) → power_lock (seal_byte b) ≡ true
seal_locks b =
    let e = seal_number b in
    let low : srp1 (seal_byte b) ≡ true = eq-eqb (seal_byte b / 1 % 2) 1 (omega arith) in
    let high : srp0 (seal_byte b) ≡ false = ne_eqb (seal_byte b / 128 % 2) 1 (λ f. omega arith) in
    (λ k. low k && not (high k))

-- the bits that name addresses are those of the given byte
same_bp : (b : ℕ) → bp (seal_byte b) ≡ bp b
same_bp b = ap bp (seal_number b) ∙ omega arith

same_tb : (b : ℕ) → tb (seal_byte b) ≡ tb b
same_tb b = ap tb (seal_number b) ∙ ap (λ n. eqb n 1) (omega arith)

pub seal_covers : (n b x : ℕ) → covers n (seal_byte b) x ≡ covers n b x
seal_covers n b x = λ k. cond (eqb (same_bp b k) 0) false (covers_part (same_tb b k) (2 ^ same_bp b k) n x)
