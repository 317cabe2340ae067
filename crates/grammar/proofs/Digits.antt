-- Digits and bytes, there and back.
use Rattle.std.proofs.Common.{◌≡◌, ℕ, ◌+◌, ◌*◌, ◌/◌, ◌%◌, ◌<◌, true, ◌&&◌, List, [], ◌∷◌, length, refl, arith}
use Rattle.std.specs.List.{AllByRecursion}
use Rattle.std.proofs.lemmas.Bool.{and_parts, and_from}
use Rattle.std.proofs.lemmas.Bool.Decides.{nat_tests}
use Rattle.tape.specs.Hex.{is_hex, all_hex, hex_value, hex_digit, hex_byte, hex_text, bytes_in}

value_of_digit : (n : ℕ) → n < 16 → hex_value (hex_digit n) ≡ n
value_of_digit n h = grind (arith, nat_tests)

digit_of_value : (d : ℕ) → is_hex d ≡ true → hex_digit (hex_value d) ≡ d
digit_of_value d h = grind (arith, nat_tests)

value_small : (d : ℕ) → hex_value d < 16
value_small d = grind (arith, nat_tests)

digit_is_hex : (n : ℕ) → n < 16 → is_hex (hex_digit n) ≡ true
digit_is_hex n h = grind (arith, nat_tests)

-- ---- there and back

pub bytes_of_text : (bs : List ℕ) → AllByRecursion (λ b. b < 256) bs → bytes_in (hex_text bs) ≡ bs
bytes_of_text [] h = refl
bytes_of_text (b ∷ bs) h =
    let high = value_of_digit (b / 16) (omega arith) in
    let low = value_of_digit (b % 16) (omega arith) in
    let whole : 16 * hex_value (hex_digit (b / 16)) + hex_value (hex_digit (b % 16)) ≡ b = omega arith in
    let others = bytes_of_text bs h.1 in
    cc

pub length_text : (bs : List ℕ) → length (hex_text bs) ≡ 2 * length bs
length_text [] = refl
length_text (b ∷ bs) = let e = length_text bs in omega arith

pub text_is_hex : (bs : List ℕ) → AllByRecursion (λ b. b < 256) bs → all_hex (hex_text bs) ≡ true
text_is_hex [] h = refl
text_is_hex (b ∷ bs) h =
    and_from _ _ (digit_is_hex (b / 16) (omega arith)) (and_from _ _ (digit_is_hex (b % 16) (omega arith)) (text_is_hex bs h.1))

byte_text : (a b : ℕ) → is_hex a ≡ true → is_hex b ≡ true → hex_byte (16 * hex_value a + hex_value b) ≡ a ∷ b ∷ []
byte_text a b p q =
    let small = value_small b in
    let high : (16 * hex_value a + hex_value b) / 16 ≡ hex_value a = omega arith in
    let low : (16 * hex_value a + hex_value b) % 16 ≡ hex_value b = omega arith in
    let first = digit_of_value a p in
    let second = digit_of_value b q in
    cc

pub text_of_bytes : (ds : List ℕ) → all_hex ds ≡ true → length ds % 2 ≡ 0 → hex_text (bytes_in ds) ≡ ds
text_of_bytes [] p e = refl
text_of_bytes (d ∷ []) p e = absurd (omega arith)
text_of_bytes (a ∷ b ∷ ds) p e =
    let first = and_parts (is_hex a) (is_hex b && all_hex ds) p in
    let second = and_parts (is_hex b) (all_hex ds) first.1 in
    let byte = byte_text a b first.0 second.0 in
    let others = text_of_bytes ds second.1 (omega arith) in
    cc

pub bytes_fit : (ds : List ℕ) → AllByRecursion (λ b. b < 256) (bytes_in ds)
bytes_fit [] = tt
bytes_fit (d ∷ []) = tt
bytes_fit (a ∷ b ∷ ds) =
    let high = value_small a in
    let low = value_small b in
    (omega arith, bytes_fit ds)
