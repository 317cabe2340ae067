-- What a write to the bytes of a memory array makes of its store: an AND over a page, FFh over a block, a life.
use Rattle.std.proofs.Common.{◌≡◌, ℕ, ◌+◌, ◌*◌, ◌<◌, ◌≤◌, true, cond, ◌&&◌, eqb, ltb, List, [], length, replicate, sym, ap, ◌∙◌, ⊎_elim, arith}
use lib.Bits.{bit_and}
use lib.ListN.{length-replicate}
use lib.Lanes.{zip2}
use borrow.Rule.Slice.PartMut.{put_mid}
use Rattle.std.proofs.lemmas.Simd.{length-zip2}
use Rattle.std.proofs.lemmas.Nat.{from_be_bytes-to_be_bytes_4}
use Rattle.std.specs.Int.{to_be_bytes, w32}
use Rattle.std.proofs.lemmas.Bool.{cases_order, cond-true, cond-false, eq-eqb, ne_eqb}
use Rattle.std.proofs.lemmas.Bool.Decides.{nat_tests}
use Rattle.arrays.specs.Store.{programmed, blanked, with_life}
use Rattle.arrays.specs.Layout.{part, number, at_page, at_block, at_life, fits, page_in, life_in, memory_store}
use Rattle.arrays.proofs.Pieces.{length_part, part_below, part_above, part_same, part_inside, part_replicate, length_put}
use Rattle.arrays.proofs.Places.{same_block, same_page, place_below, block_above, Fit, fit, page_ends, block_ends}
use Rattle.arrays.proofs.Found.{whole}

-- where all fits, the store is the one that the bytes hold
is_whole : (n p : ℕ) (xs : List ℕ) → fits n p (length xs) ≡ true → memory_store n p xs ≡ whole n p xs (life_in n xs)
unfolding memory_store
is_whole n p xs t = cond-true (fits n p (length xs)) _ _ t

-- a write of ys, m bytes long, at a
module _ (n p : ℕ) (xs ys : List ℕ) (a m : ℕ) (fitting : fits n p (length xs) ≡ true) (long : length ys ≡ m) (ends : a + m ≤ length xs) where
  pub f : Fit n p (length xs)
  f = fit n p (length xs) fitting

  abbrev pub xs' : List ℕ
  xs' = put_mid a m xs ys

  pub within : a ≤ length xs
  within = omega (arith, ends)

  -- the store after it, if a test of block and page and one of the block tell what the pages and lives are then
  pub changed : (page : ℕ → ℕ → List ℕ) (life : ℕ → ℕ)
      → ((c r : ℕ) → page_in n p xs' c r ≡ page c r) → ((c : ℕ) → life_in n xs' c ≡ life c)
      → memory_store n p xs' ≡ record { blocks = n; pages = p; page = page; life = life }
  changed page life on_pages on_lives =
      is_whole n p xs' (ap (fits n p) (length_put a m xs ys within long ends) ∙ fitting)
      ∙ (λ i. record { blocks = n; pages = p; page = λ c r. on_pages c r i; life = λ c. on_lives c i })

  -- a write behind the lives alters none
  pub lives_stay : 4 * n ≤ a → (c : ℕ) → life_in n xs' c ≡ life_in n xs c
  lives_stay h c = grind (arith, nat_tests, part_below a m xs ys within 4 (at_life c))

  -- a write among the lives alters no page
  pub pages_stay : a + m ≤ 4 * n → (c r : ℕ) → page_in n p xs' c r ≡ page_in n p xs c r
  pages_stay h c r = ap (λ z. cond (ltb c n && ltb r p) z []) (part_above a m xs ys within long 2112 (at_page n p c r) (omega arith))

module _ (n p : ℕ) (xs new : List ℕ) (b q : ℕ) (fitting : fits n p (length xs) ≡ true) (b_in : b < n) (q_in : q < p) (whole_page : length new ≡ 2112) where
  abbrev at : ℕ
  at = at_page n p b q

  ends_page : at + 2112 ≤ length xs
  ends_page = page_ends n p b q (length xs) b_in q_in (fit n p (length xs) fitting).long

  within_page : at ≤ length xs
  within_page = omega (arith, ends_page)

  abbrev anded : List ℕ
  anded = zip2 bit_and (part 2112 at xs) new

  long_anded : length anded ≡ 2112
  long_anded = let l = length_part 2112 at xs ends_page in length-zip2 bit_and (part 2112 at xs) new (l ∙ sym whole_page) ∙ l

  abbrev after : List ℕ
  after = put_mid at 2112 xs anded

  page_at : (c r : ℕ) → c < n → r < p → part 2112 (at_page n p c r) after ≡ cond (eqb c b && eqb r q) (zip2 bit_and (part 2112 (at_page n p c r) xs) new) (part 2112 (at_page n p c r) xs)
  page_at c r c_in r_in = grind (
    arith,
    nat_tests,
    same_block p b q c r q_in r_in,
    same_page p b q c r q_in r_in,
    part_same at 2112 xs anded within_page long_anded,
    part_below at 2112 xs anded within_page 2112 (at_page n p c r),
    part_above at 2112 xs anded within_page long_anded 2112 (at_page n p c r),
    cases_order (c * p + r) (b * p + q),
  )

  page_all : (c r : ℕ) → page_in n p after c r ≡ cond (eqb c b && eqb r q) (zip2 bit_and (page_in n p xs c r) new) (page_in n p xs c r)
  page_all c r = grind (arith, nat_tests, page_at c r)

  pub and_page : memory_store n p after ≡ programmed (memory_store n p xs) b q new
  and_page =
      changed n p xs anded at 2112 fitting long_anded ends_page _ _ page_all (lives_stay n p xs anded at 2112 fitting long_anded ends_page (omega arith))
      ∙ ap (λ s. programmed s b q new) (sym (is_whole n p xs fitting))

module _ (n p : ℕ) (xs : List ℕ) (b : ℕ) (fitting : fits n p (length xs) ≡ true) (b_in : b < n) where
  abbrev blank : List ℕ
  blank = replicate (2112 * p) 255

  ends_block : at_block n p b + 2112 * p ≤ length xs
  ends_block = block_ends n p b (length xs) b_in (fit n p (length xs) fitting).long

  within_block : at_block n p b ≤ length xs
  within_block = omega (arith, ends_block)

  long_blank : length blank ≡ 2112 * p
  long_blank = length-replicate (2112 * p) 255

  abbrev mid : List ℕ
  mid = put_mid (at_block n p b) (2112 * p) xs blank

  block_at : (c r : ℕ) → c < n → r < p → part 2112 (at_page n p c r) mid ≡ cond (eqb c b) (replicate 2112 255) (part 2112 (at_page n p c r) xs)
  block_at c r c_in r_in = ⊎_elim
      (λ e. let there : at_page n p c r ≡ at_block n p b + 2112 * r = (λ i. at_page n p (e i) r) ∙ omega arith in
      ap (λ a. part 2112 a mid) there
      ∙ part_inside (at_block n p b) (2112 * p) xs blank within_block long_blank 2112 (2112 * r) (omega arith)
      ∙ part_replicate 2112 (2112 * r) (2112 * p) 255 (omega arith)
      ∙ sym (cond-true (eqb c b) _ _ (eq-eqb c b e)))
      (⊎_elim
      (λ l. part_below (at_block n p b) (2112 * p) xs blank within_block 2112 (at_page n p c r) (omega (arith, place_below b p c r l r_in))
      ∙ sym (cond-false (eqb c b) _ _ (ne_eqb c b (λ e. omega arith))))
      (λ l. part_above (at_block n p b) (2112 * p) xs blank within_block long_blank 2112 (at_page n p c r) (omega (arith, block_above p b c l))
      ∙ sym (cond-false (eqb c b) _ _ (ne_eqb c b (λ e. omega arith)))))
      (cases_order c b)

  blank_all : (c r : ℕ) → page_in n p mid c r ≡ cond (eqb c b && ltb r p) (replicate 2112 255) (page_in n p xs c r)
  blank_all c r = grind (arith, nat_tests, block_at c r)

  pub blank_block : memory_store n p mid ≡ blanked (memory_store n p xs) b
  blank_block =
      changed n p xs blank (at_block n p b) (2112 * p) fitting long_blank ends_block _ _ blank_all (lives_stay n p xs blank (at_block n p b) (2112 * p) fitting long_blank ends_block (omega arith))
      ∙ ap (λ s. blanked s b) (sym (is_whole n p xs fitting))

module _ (n p : ℕ) (xs four : List ℕ) (b : ℕ) (fitting : fits n p (length xs) ≡ true) (b_in : b < n) (long_four : length four ≡ 4) where
  ends_life : at_life b + 4 ≤ length xs
  ends_life = omega (arith, (fit n p (length xs) fitting).long)

  within_life : at_life b ≤ length xs
  within_life = omega (arith, ends_life)

  abbrev end : List ℕ
  end = put_mid (at_life b) 4 xs four

  life_at : (c : ℕ) → c < n → number (part 4 (at_life c) end) ≡ cond (eqb c b) (number four) (number (part 4 (at_life c) xs))
  life_at c c_in = grind (
    arith,
    nat_tests,
    part_same (at_life b) 4 xs four within_life long_four,
    part_below (at_life b) 4 xs four within_life 4 (at_life c),
    part_above (at_life b) 4 xs four within_life long_four 4 (at_life c),
  )

  life_all : (c : ℕ) → life_in n end c ≡ cond (eqb c b) (number four) (life_in n xs c)
  life_all c = grind (arith, nat_tests, life_at c)

  pub write_life : memory_store n p end ≡ with_life (memory_store n p xs) b (number four)
  write_life =
      changed n p xs four (at_life b) 4 fitting long_four ends_life _ _ (pages_stay n p xs four (at_life b) 4 fitting long_four ends_life (omega arith)) life_all
      ∙ ap (λ s. with_life s b (number four)) (sym (is_whole n p xs fitting))

-- a life that is written is the life that is read
pub number_digits : (v : ℕ) → v < 4294967296 → number (to_be_bytes w32 v) ≡ v
number_digits v h = omega (arith, from_be_bytes-to_be_bytes_4 v h)
