-- What programming and erasing a block leave of a store.
use Rattle.std.proofs.Common.{◌≡◌, ℕ, zero, suc, ◌+◌, ◌-◌, ◌/◌, ◌%◌, ◌^◌, ◌<◌, ◌≤◌, Bool, true, false, cond, ◌&&◌, eqb, ltb, List, [], ◌∷◌, length, get_or, replicate, refl, ap, ◌∙◌, arith}
use native.Mathlib.Nat.{zero-div}
use lib.Bits.{bit_and, and_shr, and_step}
use lib.Lanes.{zip2}
use Rattle.std.proofs.lemmas.Bool.{and_left, and_from, and_parts, cond-false, cond_both, ne_eqb, lt-ltb}
use Rattle.std.proofs.lemmas.Bool.Decides.{nat_tests}
use Rattle.arrays.specs.Store.{Store, page_size, present, has_block, lives, programmed, erased, after_program, after_erase}
use Rattle.rules.specs.Registers.{bit}
use Rattle.rules.specs.Law.{stored_bit}

-- ---- bits

and_bit : (k x y : ℕ) → bit k x ≡ 0 → bit k (bit_and x y) ≡ 0
and_bit k x y h = ap (λ n. n % 2) (and_shr x y k) ∙ ap (λ n. n % 2) (and_step (x / 2 ^ k) (y / 2 ^ k)) ∙ omega arith

zero_bit : (k : ℕ) → bit k 0 ≡ 0
zero_bit k = ap (λ n. n % 2) (zero-div (2 ^ k))

zip_bit : (k : ℕ) (u v : List ℕ) (c : ℕ) → bit k (get_or u c 0) ≡ 0 → bit k (get_or (zip2 bit_and u v) c 0) ≡ 0
zip_bit k [] v c h = h
zip_bit k (x ∷ u) [] c h = zero_bit k
zip_bit k (x ∷ u) (y ∷ v) zero h = and_bit k x y h
zip_bit k (x ∷ u) (y ∷ v) (suc c) h = zip_bit k u v c h

-- ---- both alter pages of one block only

pub record Alters (b : ℕ) (s u : Store) : Type 0 where
  pub blocks : u.blocks ≡ s.blocks
  pub pages : u.pages ≡ s.pages
  pub others : (d q : ℕ) → (d ≡ b → ⊥) → u.page d q ≡ s.page d q

unaltered : (b : ℕ) (s : Store) → Alters b s s
unaltered b s = record { blocks = refl; pages = refl; others = λ d q n. refl }

pub program_alters : (s : Store) (b p : ℕ) (xs : List ℕ) → Alters b s (after_program s b p xs)
program_alters s b p xs =
    cond_both (present s b p (length xs) && lives s b) (programmed s b p xs) s (Alters b s)
    (λ _. record { blocks = refl; pages = refl; others = λ d q n. cond-false _ _ _ (and_left (eqb d b) (eqb q p) (ne_eqb d b n)) })
    (λ _. unaltered b s)

pub erase_alters : (s : Store) (b : ℕ) → Alters b s (after_erase s b)
erase_alters s b =
    cond_both (has_block s b && lives s b) (erased s b) s (Alters b s)
    (λ _. record { blocks = refl; pages = refl; others = λ d q n. cond-false _ _ _ (and_left (eqb d b) (ltb q s.pages) (ne_eqb d b n)) })
    (λ _. unaltered b s)

-- ---- a program raises no bit and spends no life

pub program_bit : (s : Store) (b p : ℕ) (xs : List ℕ) (d q c k : ℕ) → stored_bit s d q c k ≡ 0 → stored_bit (after_program s b p xs) d q c k ≡ 0
program_bit s b p xs d q c k h =
    cond_both (present s b p (length xs) && lives s b) (programmed s b p xs) s (λ u. stored_bit u d q c k ≡ 0)
    (λ _. cond_both (eqb d b && eqb q p) (zip2 bit_and (s.page d q) xs) (s.page d q) (λ u. bit k (get_or u c 0) ≡ 0) (λ _. zip_bit k (s.page d q) xs c h) (λ _. h))
    (λ _. h)

pub program_life : (s : Store) (b p : ℕ) (xs : List ℕ) (d : ℕ) → (after_program s b p xs).life d ≡ s.life d
program_life s b p xs d = cond_both (present s b p (length xs) && lives s b) (programmed s b p xs) s (λ u. u.life d ≡ s.life d) (λ _. refl) (λ _. refl)

-- ---- an erase raises bits and spends a life of its block where life is left

pub erase_life : (s : Store) (b d : ℕ) → b < s.blocks → (after_erase s b).life d ≡ cond (ltb 0 (s.life b) && eqb d b) (s.life b - 1) (s.life d)
erase_life s b d h =
    ap (λ t. (cond (t && lives s b) (erased s b) s).life d) (lt-ltb b s.blocks h)
    ∙ elim (lives s b) as (λ t. (cond t (erased s b) s).life d ≡ cond (t && eqb d b) (s.life b - 1) (s.life d)) [ true ↦ refl | false ↦ refl ]

pub erase_rises : (s : Store) (b d q c k : ℕ) → stored_bit s d q c k ≡ 0 → stored_bit (after_erase s b) d q c k ≡ 1 → (ltb 0 (s.life b) && eqb d b) ≡ true
erase_rises s b d q c k e =
    cond_both (has_block s b && lives s b) (erased s b) s (λ u. stored_bit u d q c k ≡ 1 → (ltb 0 (s.life b) && eqb d b) ≡ true)
    (λ t. cond_both (eqb d b && ltb q s.pages) (replicate page_size 255) (s.page d q) (λ u. bit k (get_or u c 0) ≡ 1 → (ltb 0 (s.life b) && eqb d b) ≡ true)
    (λ v _. let l = (and_parts (has_block s b) (lives s b) t).1 in let same = (and_parts (eqb d b) (ltb q s.pages) v).0 in and_from (ltb 0 (s.life b)) (eqb d b) l same)
    (λ _ f. absurd (rise_none (stored_bit s d q c k) e f)))
    (λ _ f. absurd (rise_none (stored_bit s d q c k) e f))
  where
    rise_none : (x : ℕ) → x ≡ 0 → x ≡ 1 → ⊥
    rise_none x z o = omega arith

-- life L left, E finished erases and life S at the start of block d, when block b with life M left is erased
pub erase_spends : (d b L E S M : ℕ) → S ≡ L + E → (d ≡ b → M ≡ L) → S ≡ cond (ltb 0 M && eqb d b) (M - 1) L + cond (eqb d b && ltb E S) (E + 1) E
erase_spends d b L E S M h k = grind (arith, nat_tests)

pub erase_counts : (d b L E S M : ℕ) → S ≡ L + E → (d ≡ b → M ≡ L) → (ltb 0 M && eqb d b) ≡ true → E < cond (eqb d b && ltb E S) (E + 1) E
erase_counts d b L E S M h k t = grind (arith, nat_tests)

pub erase_grows : (E : ℕ) (t : Bool) → E ≤ cond t (E + 1) E
erase_grows E true = omega arith
erase_grows E false = omega arith
