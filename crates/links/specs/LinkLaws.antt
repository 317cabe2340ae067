-- What a table makes of addresses: no two reach one block, and a swap turns those of its two addresses and of the first one's former partner.
use Rattle.std.specs.Prelude.{◌≡◌, ℕ, ◌<◌, ◌≤◌, List, Some, ◌≢◌}
use Rattle.links.specs.declared.entry.Entry.{Entry}
use Rattle.links.specs.Links.{partner, reach}

-- reach among n blocks is its own inverse and stays among them, so no two addresses reach one block; an address past them reaches its own
pub record Paired (n : ℕ) (es : List Entry) : Type 0 where
  pub back : (x : ℕ) → reach n es (reach n es x) ≡ x
  pub within : (x : ℕ) → x < n → reach n es x < n
  pub beyond : (x : ℕ) → n ≤ x → reach n es x ≡ x
  pub one : (x y : ℕ) → reach n es x ≡ reach n es y → x ≡ y

-- from es to fs exactly a, b and the former partner of a come to reach other blocks
pub record Turned (n a b : ℕ) (es fs : List Entry) : Type 0 where
  pub a_before : reach n es a ≡ b → ⊥
  pub a_after : reach n fs a ≡ b
  pub b_before : reach n es b ≡ b
  pub b_after : reach n fs b ≡ a
  pub former_before : (y : ℕ) → partner n es a ≡ Some y → reach n es y ≡ a
  pub former_after : (y : ℕ) → partner n es a ≡ Some y → reach n fs y ≡ y
  pub others : (x : ℕ) → (x ≢ a) → (x ≢ b) → (partner n es a ≢ Some x) → reach n fs x ≡ reach n es x
