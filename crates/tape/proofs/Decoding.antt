-- The bytes that digits stand for: how many, and each by itself.
use Rattle.std.proofs.Common.{◌≡◌, ℕ, zero, suc, ◌+◌, ◌*◌, ◌/◌, ◌<◌, List, [], ◌∷◌, length, get_or, refl, ap, arith}
use Rattle.tape.specs.Hex.{hex_value, bytes_in}

pub length-bytes_in : (ds : List ℕ) → length (bytes_in ds) ≡ length ds / 2
length-bytes_in [] = refl
length-bytes_in (d ∷ []) = refl
length-bytes_in (a ∷ b ∷ ds) = let e = length-bytes_in ds in omega arith

two_on : (a b : ℕ) (ds : List ℕ) (i j : ℕ) → i ≡ suc (suc j) → get_or (a ∷ b ∷ ds) i 0 ≡ get_or ds j 0
two_on a b ds i j e = ap (λ k. get_or (a ∷ b ∷ ds) k 0) e

pub byte_in : (ds : List ℕ) (k : ℕ) → k < length ds / 2 → get_or (bytes_in ds) k 0 ≡ 16 * hex_value (get_or ds (2 * k) 0) + hex_value (get_or ds (2 * k + 1) 0)
byte_in [] k h = absurd (omega arith)
byte_in (d ∷ []) k h = absurd (omega arith)
byte_in (a ∷ b ∷ ds) zero h = refl
byte_in (a ∷ b ∷ ds) (suc k) h =
    let high = two_on a b ds (2 * suc k) (2 * k) (omega arith) in
    let low = two_on a b ds (2 * suc k + 1) (2 * k + 1) (omega arith) in
    let here = byte_in ds k (omega arith) in
    cc
