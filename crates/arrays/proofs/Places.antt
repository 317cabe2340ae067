-- Where the pages lie: each within the bytes, and no two at one place.
use Rattle.std.proofs.Common.{◌≡◌, ℕ, ◌+◌, ◌*◌, ◌/◌, ◌%◌, ◌<◌, ◌≤◌, true, sym, ap, ◌∙◌, mul_comm, add-mul, arith}
use lib.Count.{ones}
use Rattle.std.proofs.lemmas.Nat.{mul-add-lt, div-mul-add, mod-mul-add, mul-le}
use Rattle.std.proofs.lemmas.Bool.Decides.{nat_tests}
use Rattle.arrays.specs.Layout.{fits, at_page, at_block}

-- the place of page r of block c among the pages
pub place_below : (n p c r : ℕ) → c < n → r < p → c * p + r < n * p
place_below n p c r h k = omega (arith, mul-add-lt c p r n h k, mul_comm p n)

pub same_block : (p b q c r : ℕ) → q < p → r < p → c * p + r ≡ b * p + q → c ≡ b
same_block p b q c r h k e = sym (div-mul-add c p r k) ∙ ap (λ x. x / p) e ∙ div-mul-add b p q h

pub same_page : (p b q c r : ℕ) → q < p → r < p → c * p + r ≡ b * p + q → r ≡ q
same_page p b q c r h k e = sym (mod-mul-add c p r k) ∙ ap (λ x. x % p) e ∙ mod-mul-add b p q h

-- the pages of a block end where those of the next begin
pub block_above : (p b c : ℕ) → b < c → b * p + p ≤ c * p
block_above p b c h = omega (arith, mul-le (b + 1) p c p h' (omega arith), add-mul b 1 p)
  where
    h' : b + 1 ≤ c
    h' = omega arith

-- what fits, as facts; the largest array has 138,416,128 bytes
pub record Fit (n p len : ℕ) : Type 0 where
  pub n_most : n ≤ 1024
  pub p_most : p ≤ 64
  pub n_power : ones n ≡ 1
  pub p_power : ones p ≡ 1
  pub long : len ≡ 4 * n + 2112 * (n * p)
  pub most : len ≤ 138416128

pub fit : (n p len : ℕ) → fits n p len ≡ true → Fit n p len
fit n p len e =
    let n_most : n ≤ 1024 = grind (arith, nat_tests) in
    let p_most : p ≤ 64 = grind (arith, nat_tests) in
    let long : len ≡ 4 * n + 2112 * (n * p) = grind (arith, nat_tests) in
    record {
      n_most = n_most;
      p_most = p_most;
      n_power = grind (arith, nat_tests);
      p_power = grind (arith, nat_tests);
      long = long;
      most = omega (arith, mul-le n p 1024 64 n_most p_most);
    }

pub page_ends : (n p b q len : ℕ) → b < n → q < p → len ≡ 4 * n + 2112 * (n * p) → at_page n p b q + 2112 ≤ len
page_ends n p b q len h k e = omega (arith, place_below n p b q h k)

pub block_ends : (n p b len : ℕ) → b < n → len ≡ 4 * n + 2112 * (n * p) → at_block n p b + 2112 * p ≤ len
block_ends n p b len h e = omega (arith, block_above p b n h)
