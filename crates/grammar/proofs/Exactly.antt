-- Exactly the lines that are written for sound requests are records.
use Rattle.std.proofs.Common.{◌≡◌, ℕ, ◌+◌, ◌-◌, ◌*◌, ◌/◌, ◌%◌, ◌<◌, ◌≤◌, Bool, true, false, cond, eqb, ◌⊎◌, List, [], ◌∷◌, length, Some, None, refl, subst, inl, inr, ⊎_elim, arith}
use Rattle.std.specs.List.{AllByRecursion}
use Rattle.std.proofs.lemmas.Bool.{and_from, and_right, le-leb, false≢true}
use Rattle.std.proofs.lemmas.Bool.Decides.{nat_tests}
use Rattle.tape.specs.Hex.{all_hex, hex_text, bytes_in}
use Rattle.tape.proofs.Decoding.{length-bytes_in}
use Rattle.tape.specs.Lines.{Request, transaction, step, power, is_mark, is_level, is_head, area_length, are_bytes, is_transaction, transaction_in, request_in}
use Rattle.grammar.specs.Grammar.{line_of, Sound}
use Rattle.grammar.proofs.Digits.{bytes_of_text, length_text, text_is_hex, text_of_bytes, bytes_fit}

-- ---- a written line is read

third : {X : Type 0} (a b c : Bool) (x y z w : X) → a ≡ false → b ≡ false → c ≡ true → z ≡ w → cond a (Some x) (cond b (Some y) (cond c (Some z) None)) ≡ Some w
third a b c x y z w p q r e = rw (p, q, r, e) refl

level_written : (low : Bool) → (is_level (cond low 48 49) ≡ true) × (eqb (cond low 48 49) 48 ≡ low)
level_written true = (refl, refl)
level_written false = (refl, refl)

area_written : (n : ℕ) → 10 * ((48 + n / 10) - 48) + ((48 + n % 10) - 48) ≡ n
area_written n = omega arith

head_written : (low : Bool) (n : ℕ) (sent : List ℕ) → n ≤ 64 → is_head (line_of (transaction low n sent)) ≡ true
head_written low n sent h = let level = level_written low in grind (arith, nat_tests)

bytes_written : (sent : List ℕ) → length sent ≤ 64 → AllByRecursion (λ b. b < 256) sent → are_bytes (hex_text sent) ≡ true
bytes_written sent h k =
    let long = length_text sent in
    let hex = text_is_hex sent k in
    grind (arith, nat_tests)

transaction_written : (low : Bool) (n : ℕ) (sent : List ℕ) → n ≤ 64 → length sent ≤ 64 → AllByRecursion (λ b. b < 256) sent → is_transaction (line_of (transaction low n sent)) ≡ true
transaction_written low n sent h k all =
    let line = line_of (transaction low n sent) in
    and_from _ _ (le-leb 8 (length line) (omega arith)) (and_from _ _ (head_written low n sent h) (and_from _ _ (le-leb (area_length line) 64 (omega (arith, area_written n))) (bytes_written sent k all)))

transaction_is : (low : Bool) (n : ℕ) (sent : List ℕ) → AllByRecursion (λ b. b < 256) sent → transaction_in (line_of (transaction low n sent)) ≡ transaction low n sent
transaction_is low n sent h =
    let level = level_written low in
    let area = area_written n in
    let bytes = bytes_of_text sent h in
    cc

pub written_is_read : (r : Request) → Sound r → request_in (line_of r) ≡ Some r
written_is_read (transaction low n sent) h =
    let line = line_of (transaction low n sent) in
    third (is_mark 83 84 line) (is_mark 80 87 line) (is_transaction line) step power (transaction_in line) (transaction low n sent)
    (and_right (eqb (length line) 2) false refl)
    (and_right (eqb (length line) 2) false refl)
    (transaction_written low n sent h.0 h.1 h.2)
    (transaction_is low n sent h.2)
written_is_read step h = refl
written_is_read power h = refl

-- ---- a line that is read is a written one

which : {X : Type 0} (a b c : Bool) (x y z w : X) → cond a (Some x) (cond b (Some y) (cond c (Some z) None)) ≡ Some w → ((a ≡ true) × (x ≡ w)) ⊎ (((b ≡ true) × (y ≡ w)) ⊎ ((c ≡ true) × (z ≡ w)))
which true b c x y z w e = inl (refl, (cc))
which false true c x y z w e = inr (inl (refl, (cc)))
which false false true x y z w e = inr (inr (refl, (cc)))
which false false false x y z w e = (cc)

mark_read : (a b : ℕ) (line : List ℕ) → is_mark a b line ≡ true → line ≡ a ∷ b ∷ []
mark_read a b [] e = absurd (false≢true e)
mark_read a b (x ∷ []) e = absurd (false≢true e)
mark_read a b (x ∷ y ∷ []) e = grind (arith, nat_tests)
mark_read a b (x ∷ y ∷ z ∷ l) e = grind (arith, nat_tests)

record Parts (t x b l c d e f : ℕ) (ds : List ℕ) : Type 0 where
  mark : (t ≡ 84) × (x ≡ 88)
  blanks : (b ≡ 32) × (c ≡ 32) × (f ≡ 32)
  level : l ≡ cond (eqb l 48) 48 49
  tens : (48 ≤ d) × (d ≤ 57)
  units : (48 ≤ e) × (e ≤ 57)
  area : 10 * (d - 48) + (e - 48) ≤ 64
  most : length ds ≤ 128
  even : length ds % 2 ≡ 0
  hex : all_hex ds ≡ true

parts_read : (t x b l c d e f : ℕ) (ds : List ℕ) → is_transaction (t ∷ x ∷ b ∷ l ∷ c ∷ d ∷ e ∷ f ∷ ds) ≡ true → Parts t x b l c d e f ds
parts_read t x b l c d e f ds h =
    record {
      mark = (grind (arith, nat_tests), grind (arith, nat_tests));
      blanks = (grind (arith, nat_tests), grind (arith, nat_tests), grind (arith, nat_tests));
      level = grind (arith, nat_tests);
      tens = (grind (arith, nat_tests), grind (arith, nat_tests));
      units = (grind (arith, nat_tests), grind (arith, nat_tests));
      area = grind (arith, nat_tests);
      most = grind (arith, nat_tests);
      even = grind (arith, nat_tests);
      hex = grind (arith, nat_tests);
    }

line_read : (t x b l c d e f : ℕ) (ds : List ℕ) → Parts t x b l c d e f ds → t ∷ x ∷ b ∷ l ∷ c ∷ d ∷ e ∷ f ∷ ds ≡ line_of (transaction_in (t ∷ x ∷ b ∷ l ∷ c ∷ d ∷ e ∷ f ∷ ds))
line_read t x b l c d e f ds p =
    let tens : d ≡ 48 + (10 * (d - 48) + (e - 48)) / 10 = omega arith in
    let units : e ≡ 48 + (10 * (d - 48) + (e - 48)) % 10 = omega arith in
    let sent = text_of_bytes ds p.hex p.even in
    cc

transaction_read : (line : List ℕ) → is_transaction line ≡ true → (line ≡ line_of (transaction_in line)) × Sound (transaction_in line)
transaction_read [] h = absurd (false≢true h)
transaction_read (a ∷ []) h = absurd (false≢true h)
transaction_read (a ∷ b ∷ []) h = absurd (false≢true h)
transaction_read (a ∷ b ∷ c ∷ []) h = absurd (false≢true h)
transaction_read (a ∷ b ∷ c ∷ d ∷ []) h = absurd (false≢true h)
transaction_read (a ∷ b ∷ c ∷ d ∷ e ∷ []) h = absurd (false≢true h)
transaction_read (a ∷ b ∷ c ∷ d ∷ e ∷ f ∷ []) h = absurd (false≢true h)
transaction_read (a ∷ b ∷ c ∷ d ∷ e ∷ f ∷ g ∷ []) h = absurd (false≢true h)
transaction_read (t ∷ x ∷ b ∷ l ∷ c ∷ d ∷ e ∷ f ∷ ds) h =
    let p = parts_read t x b l c d e f ds h in
    let few : length (bytes_in ds) ≤ 64 = omega (arith, length-bytes_in ds) in
    (line_read t x b l c d e f ds p, (p.area, few, bytes_fit ds))

pub read_is_written : (line : List ℕ) (r : Request) → request_in line ≡ Some r → (line ≡ line_of r) × Sound r
read_is_written line r h =
    let P : Request → Type 0 = λ q. (line ≡ line_of q) × Sound q in
    ⊎_elim
    (λ e. subst P e.1 (mark_read 83 84 line e.0, tt))
    (⊎_elim
    (λ e. subst P e.1 (mark_read 80 87 line e.0, tt))
    (λ e. subst P e.1 (transaction_read line e.0)))
    (which (is_mark 83 84 line) (is_mark 80 87 line) (is_transaction line) step power (transaction_in line) r h)
