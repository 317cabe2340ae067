-- A line longer than every record is none, and so are its first 137 bytes.
use Rattle.std.proofs.Common.{◌≡◌, ℕ, ◌%◌, ◌<◌, ◌≤◌, Bool, false, cond, ◌&&◌, eqb, leb, List, [], ◌∷◌, ◌++◌, length, take, drop, Some, None, Option, sym, ap, ◌∙◌, ⊎_elim, arith}
use Rattle.std.proofs.lemmas.List.{length-drop, length-take-le, take_all, take-append-le, length_push}
use Rattle.std.proofs.lemmas.Bool.{and_left, and_right, ne_eqb, lt-leb, lt-ltb, le-ltb, cases_lt}
use Rattle.tape.specs.Hex.{all_hex}
use Rattle.tape.specs.Lines.{step, power, is_mark, is_head, area_length, are_bytes, is_transaction, transaction_in, request_in}
use Rattle.tape.specs.Views.{kept}

none_of : {X : Type 0} (a b c : Bool) (x y z : Option X) → a ≡ false → b ≡ false → c ≡ false → cond a x (cond b y (cond c z None)) ≡ None
none_of a b c x y z p q r = rw (p, q, r)

long_is_none : (line : List ℕ) → 137 ≤ length line → request_in line ≡ None
long_is_none line h =
    let rest : 128 < length (drop 8 line) = simp length-drop (omega arith) in
    let no_mark : (length line ≡ 2) → ⊥ = λ e. omega arith in
    none_of (is_mark 83 84 line) (is_mark 80 87 line) (is_transaction line) (Some step) (Some power) (Some (transaction_in line))
    (and_left _ _ (ne_eqb (length line) 2 no_mark))
    (and_left _ _ (ne_eqb (length line) 2 no_mark))
    (and_right (leb 8 (length line)) _ (and_right (is_head line) _ (and_right (leb (area_length line) 64) (are_bytes (drop 8 line)) (and_left _ (eqb (length (drop 8 line) % 2) 0 && all_hex (drop 8 line)) (lt-leb (length (drop 8 line)) 128 rest)))))

pub cut_is_same : (line : List ℕ) → request_in (take 137 line) ≡ request_in line
cut_is_same line =
    ⊎_elim
    (λ short. ap request_in (take_all 137 line (omega arith)))
    (λ long. let full = length-take-le 137 line long in long_is_none (take 137 line) (omega arith) ∙ sym (long_is_none line long))
    (cases_lt (length line) 137)

short_grows : (line : List ℕ) (byte : ℕ) → length line < 137 → kept line byte ≡ take 137 (line ++ (byte ∷ []))
short_grows line byte short =
    let more = length_push line byte in
    let fits : length (line ++ (byte ∷ [])) ≤ 137 = omega arith in
    rw (lt-ltb (length line) 137 short) (sym (take_all 137 (line ++ (byte ∷ [])) fits))

pub cut_grows : (line : List ℕ) (byte : ℕ) → kept (take 137 line) byte ≡ take 137 (line ++ (byte ∷ []))
cut_grows line byte =
    ⊎_elim
    (λ short. let fits : length line ≤ 137 = omega arith in ap (λ l. kept l byte) (take_all 137 line fits) ∙ short_grows line byte short)
    (λ long.
    let full = length-take-le 137 line long in
    let no_room : 137 ≤ length (take 137 line) = omega arith in
    rw (le-ltb (length (take 137 line)) 137 no_room) (sym (take-append-le 137 line (byte ∷ []) long)))
    (cases_lt (length line) 137)
