-- What lies in bytes has an array's shape.
use Rattle.std.proofs.Common.{◌≡◌, ℕ, ◌+◌, ◌^◌, ◌<◌, ◌≤◌, true, ◌&&◌, ltb, List, [], length, get_or, drop, refl, ap, ◌∙◌, inl, inr, ⊎_elim, arith, length-take}
use lib.Count.{ones}
use Rattle.std.proofs.lemmas.List.{get_or-take, get_or-drop, get_or_past}
use Rattle.std.proofs.lemmas.Bool.{cases_lt, cond-true, cond-false, cond_both, and_from, lt-ltb, le-ltb}
use Rattle.std.proofs.lemmas.Bool.Decides.{nat_tests}
use Rattle.arrays.specs.Store.{Shape, Power, nothing}
use Rattle.arrays.specs.Layout.{part, at_page, fits, page_in, life_in, laid, memory_store, dump_store}
use Rattle.arrays.proofs.Pieces.{length_part}
use Rattle.arrays.proofs.Places.{fit, page_ends}
use Rattle.arrays.proofs.Powers.{one_bit}

shape_nothing : Shape nothing
shape_nothing = record {
  sizes = inl (refl, refl);
  long = λ b q h k. absurd (omega arith);
  small = λ b q k. omega arith;
  no_page = λ b q h. refl;
  no_life = λ b h. refl;
}

small_part : (k i : ℕ) (xs : List ℕ) → ((j : ℕ) → get_or xs j 0 < 256) → (j : ℕ) → get_or (part k i xs) j 0 < 256
small_part k i xs h j = ⊎_elim
    (λ l. omega (arith, get_or-take k (drop i xs) j 0 l, get_or-drop i xs j 0, h (i + j)))
    (λ l. omega (arith, get_or_past (part k i xs) j 0 (omega (arith, length-take k (drop i xs)))))
    (cases_lt j k)

power_of : (k most m : ℕ) → m ≤ most → m < 2 ^ k → ones m ≡ 1 → Power most m
power_of k most m h l e = let (i, _, q) = one_bit k m l e in (i, q, h)

module _ (n p : ℕ) (xs : List ℕ) (small : (j : ℕ) → get_or xs j 0 < 256) where
  shape_laid : (life : ℕ → ℕ) → ((b : ℕ) → n ≤ b → life b ≡ 0) → Shape (laid n p xs life)
  shape_laid life none = cond_both (fits n p (length xs)) _ nothing Shape shape_whole (λ _. shape_nothing)
    where
      shape_whole : fits n p (length xs) ≡ true → Shape (record { blocks = n; pages = p; page = page_in n p xs; life = life })
      shape_whole fitting =
          let f = fit n p (length xs) fitting in
          record {
            sizes = inr (power_of 11 1024 n f.n_most (omega arith) f.n_power, power_of 7 64 p f.p_most (omega arith) f.p_power);
            long = λ b q h k. ap length (cond-true (ltb b n && ltb q p) _ _ (and_from _ _ (lt-ltb b n h) (lt-ltb q p k)))
                ∙ length_part 2112 (at_page n p b q) xs (page_ends n p b q (length xs) h k f.long);
            small = λ b q k. cond_both (ltb b n && ltb q p) (part 2112 (at_page n p b q) xs) [] (λ l. get_or l k 0 < 256)
                (λ _. small_part 2112 (at_page n p b q) xs small k) (λ _. omega arith);
            no_page = λ b q h. grind (arith, nat_tests);
            no_life = none;
          }

  pub memory_shape : Shape (memory_store n p xs)
  unfolding memory_store
  memory_shape = shape_laid (life_in n xs) (λ b h. cond-false (ltb b n) _ _ (le-ltb b n h))

  pub dump_shape : Shape (dump_store n p xs)
  unfolding dump_store
  dump_shape = shape_laid (λ _. 0) (λ b h. refl)
