-- What several erases of one block leave of its life.
use Rattle.std.proofs.Common.{◌≡◌, ℕ, zero, suc, ◌+◌, ◌-◌, ◌<◌, true, false, ◌&&◌, ltb, refl, ap, ◌∙◌, arith}
use Rattle.std.proofs.lemmas.Bool.Decides.{nat_tests}
use Rattle.arrays.specs.Store.{Store, has_block, lives, after_erase}
use Rattle.bench.specs.Steps.{erase_times, erases_done}

blocks_stay : (k : ℕ) (s : Store) (b : ℕ) → (erase_times k s b).blocks ≡ s.blocks
blocks_stay zero s b = refl
blocks_stay (suc k) s b = grind (arith, nat_tests, blocks_stay k s b)

-- an erase of a block that exists leaves one life less, or none
life_less : (t : Store) (b : ℕ) → has_block t b ≡ true → (after_erase t b).life b ≡ t.life b - 1
life_less t b h = grind (arith, nat_tests)

pub block_stays : (k : ℕ) (s : Store) (b : ℕ) → has_block (erase_times k s b) b ≡ has_block s b
block_stays k s b = ap (ltb b) (blocks_stay k s b)

pub life_left : (k : ℕ) (s : Store) (b : ℕ) → has_block s b ≡ true → (erase_times k s b).life b ≡ s.life b - k
life_left zero s b h = omega arith
life_left (suc k) s b h =
    omega (arith, life_less (erase_times k s b) b (block_stays k s b ∙ h), life_left k s b h)

-- of erases that were all done, one more is done, or none
module _ (s : Store) (b k : ℕ) (all : erases_done s b k ≡ k) where
  abbrev t : Store
  t = erase_times k s b

  pub one_more : (has_block t b && lives t b) ≡ true → erases_done s b (k + 1) ≡ k + 1
  one_more e = grind (arith, nat_tests, life_left k s b, block_stays k s b)

  pub no_more : (most : ℕ) → k < most → (has_block t b && lives t b) ≡ false → k ≡ erases_done s b most
  no_more most h e = grind (arith, nat_tests, life_left k s b, block_stays k s b)
