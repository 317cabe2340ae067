-- One piece of text after another.
use Rattle.std.proofs.Common.{◌≡◌, ℕ, ◌+◌, ◌/◌, ◌%◌, ◌<◌, ◌≤◌, List, [], ◌∷◌, ◌++◌, length, get_or, take, decimal, sym, ap, ◌∙◌, append_assoc, arith}
use Rattle.std.proofs.lemmas.List.{take_more, flat_map_more, length_push}
use Rattle.std.proofs.lemmas.Fmt.{decimal_digit, decimal_step}
use Rattle.tape.specs.Hex.{hex_byte, hex_text}

pub two_more : (w x y : List ℕ) (a b : ℕ) → x ≡ w ++ (a ∷ []) → y ≡ x ++ (b ∷ []) → y ≡ w ++ (a ∷ b ∷ [])
two_more w x y a b p q = q ∙ (ap (λ l. l ++ (b ∷ [])) p ∙ append_assoc w (a ∷ []) (b ∷ []))

pub hex_more : (w x y bs : List ℕ) (i : ℕ) → i < length bs → x ≡ w ++ hex_text (take i bs) → y ≡ x ++ hex_byte (get_or bs i 0) → y ≡ w ++ hex_text (take (i + 1) bs)
hex_more w x y bs i h p q = q ∙ (ap (λ l. l ++ hex_byte (get_or bs i 0)) p ∙ (flat_map_more hex_byte w (take i bs) (get_or bs i 0) ∙ ap (λ l. w ++ hex_text l) (sym (take_more bs i 0 h))))

-- ---- numbers

pub length_one : (n : ℕ) → n < 10 → length (decimal n) ≡ 1
length_one n h = ap length (decimal_digit n h)

pub length_more : (n : ℕ) → 10 ≤ n → n < 256 → length (decimal n) ≡ length (decimal (n / 10)) + 1
length_more n h k = ap length (decimal_step n h (omega arith)) ∙ length_push (decimal (n / 10)) (48 + n % 10)

pub number_one : (w x : List ℕ) (n : ℕ) → n < 10 → x ≡ w ++ ((48 + n) ∷ []) → x ≡ w ++ decimal n
number_one w x n h p = p ∙ ap (λ l. w ++ l) (sym (decimal_digit n h))

pub number_more : (w x y : List ℕ) (n : ℕ) → 10 ≤ n → n < 256 → x ≡ w ++ decimal (n / 10) → y ≡ x ++ ((48 + n % 10) ∷ []) → y ≡ w ++ decimal n
number_more w x y n h k p q =
    q ∙ (ap (λ l. l ++ ((48 + n % 10) ∷ [])) p ∙ (append_assoc w (decimal (n / 10)) ((48 + n % 10) ∷ []) ∙ ap (λ l. w ++ l) (sym (decimal_step n h (omega arith)))))
