-- What an array means, and what its calls answer and leave.
use Rattle.std.specs.Prelude.{◌≡◌, ℕ, ◌-◌, ◌^◌, ◌<◌, ◌≤◌, Bool, cond, ◌&&◌, ◌⊎◌, List, [], length, replicate, ◌==◌, bit_and, nat_lt, slice_index, Result, Ok, Err}
use Rattle.std.specs.Simd.Lanes.{zip2}
use Rattle.arrays.specs.declared.error.ArrayError.{ArrayError}
use Rattle.arrays.specs.declared.error.ArrayError.TheVariants.{Worn, Absent}

-- bytes of a page; the largest N and P
abbrev pub page_size : ℕ
page_size = 2112

abbrev pub most_blocks : ℕ
most_blocks = 1024

abbrev pub most_pages : ℕ
most_pages = 64

-- N, P, the bytes of page q of block b, and the life of block b: the number of erases that it still takes
pub record Store : Type 0 where
  pub blocks : ℕ
  pub pages : ℕ
  pub page : ℕ → ℕ → List ℕ
  pub life : ℕ → ℕ

-- the empty array
abbrev pub nothing : Store
nothing = record { blocks = 0; pages = 0; page = λ _ _. []; life = λ _. 0 }

-- the same array with each life 0
abbrev pub lifeless : Store → Store
lifeless s = record { blocks = s.blocks; pages = s.pages; page = s.page; life = λ _. 0 }

-- n is a power of two from 1 to `most`
abbrev pub Power : ℕ → ℕ → Type 0
Power most n = (e : ℕ) × (n ≡ 2 ^ e) × (n ≤ most)

-- what every array is like; what does not exist has no bytes and no life
pub record Shape (s : Store) : Type 0 where
  pub sizes : ((s.blocks ≡ 0) × (s.pages ≡ 0)) ⊎ (Power most_blocks s.blocks × Power most_pages s.pages)
  pub long : (b q : ℕ) → b < s.blocks → q < s.pages → length (s.page b q) ≡ page_size
  pub small : (b q k : ℕ) → slice_index (s.page b q) k < 256
  pub no_page : (b q : ℕ) → (s.blocks ≤ b) ⊎ (s.pages ≤ q) → s.page b q ≡ []
  pub no_life : (b : ℕ) → s.blocks ≤ b → s.life b ≡ 0

-- does block b exist; does page q of it exist and are the call's n bytes a page long; has block b a life of at least 1
abbrev pub has_block : Store → ℕ → Bool
has_block s b = nat_lt b s.blocks

abbrev pub present : Store → ℕ → ℕ → ℕ → Bool
present s b q n = (has_block s b && nat_lt q s.pages) && n == page_size

abbrev pub lives : Store → ℕ → Bool
lives s b = nat_lt 0 (s.life b)

-- read answers by what exists, program and erase by life too; "absent" is tried first
abbrev pub read_answer : Bool → Result (Unit {0}) ArrayError
read_answer exists = cond exists (Ok tt) (Err Absent)

abbrev pub write_answer : Bool → Bool → Result (Unit {0}) ArrayError
write_answer exists alive = cond exists (cond alive (Ok tt) (Err Worn)) (Err Absent)

-- the area after read: the page, or what it held
abbrev pub area_after : Store → ℕ → ℕ → List ℕ → List ℕ
area_after s b q area = cond (present s b q (length area)) (s.page b q) area

-- each byte of page q of block b becomes old AND new
abbrev pub programmed : Store → ℕ → ℕ → List ℕ → Store
programmed s b q new = record {
  blocks = s.blocks;
  pages = s.pages;
  page = λ c r. cond (c == b && r == q) (zip2 bit_and (s.page c r) new) (s.page c r);
  life = s.life;
}

-- each byte of block b becomes FFh
abbrev pub blanked : Store → ℕ → Store
blanked s b = record {
  blocks = s.blocks;
  pages = s.pages;
  page = λ c r. cond (c == b && nat_lt r s.pages) (replicate page_size 255) (s.page c r);
  life = s.life;
}

-- block b has this life
abbrev pub with_life : Store → ℕ → ℕ → Store
with_life s b life = record {
  blocks = s.blocks;
  pages = s.pages;
  page = s.page;
  life = λ c. cond (c == b) life (s.life c);
}

abbrev pub erased : Store → ℕ → Store
erased s b = with_life (blanked s b) b (s.life b - 1)

-- the blocks below `end` are new: all their bytes FFh, and each life the given one
abbrev pub renewed : Store → ℕ → ℕ → Store
renewed s end life = record {
  blocks = s.blocks;
  pages = s.pages;
  page = λ c r. cond (nat_lt c end && nat_lt r s.pages) (replicate page_size 255) (s.page c r);
  life = λ c. cond (nat_lt c end) life (s.life c);
}

-- the array after program and after erase: nothing changes unless the call was carried out
abbrev pub after_program : Store → ℕ → ℕ → List ℕ → Store
after_program s b q new = cond (present s b q (length new) && lives s b) (programmed s b q new) s

abbrev pub after_erase : Store → ℕ → Store
after_erase s b = cond (has_block s b && lives s b) (erased s b) s
