-- What a linked array means: at address b it shows the pages and the life of the block that b reaches.
use Rattle.std.specs.Prelude.{◌≡◌, ℕ, List}
use Rattle.arrays.specs.Store.{Store, has_block, present, lives, read_answer, write_answer, area_after, after_program, after_erase}
use Rattle.links.specs.declared.entry.Entry.{Entry}
use Rattle.links.specs.Links.{reach}
use Rattle.linked.specs.declared.linked.Linked.{Linked}

abbrev pub shown : List Entry → Store → Store
shown es s = record {
  blocks = s.blocks;
  pages = s.pages;
  page = λ b q. s.page (reach s.blocks es b) q;
  life = λ b. s.life (reach s.blocks es b);
}

-- of a linked array, where `meaning` gives the store of the array below: N, what it shows, and the block that address b reaches
abbrev pub block_count : {A : Type 0} → (A → Store) → Linked A → ℕ
block_count meaning l = (meaning l.array).blocks

abbrev pub showing : {A : Type 0} → (A → Store) → Linked A → Store
showing meaning l = shown l.table (meaning l.array)

abbrev pub reached : {A : Type 0} → (A → Store) → Linked A → ℕ → ℕ
reached meaning l b = reach (block_count meaning l) l.table b

-- what a call at block r of an array a is at address b of the linked array: `meaning` gives the stores of arrays of its kind
pub record Through {Kind : Type 0} (meaning : Kind → Store) (es : List Entry) (a : Kind) (b r : ℕ) : Type 0 where
  pub reads : (q k : ℕ) → read_answer (present (meaning a) r q k) ≡ read_answer (present (shown es (meaning a)) b q k)
  pub area : (q : ℕ) (xs : List ℕ) → area_after (meaning a) r q xs ≡ area_after (shown es (meaning a)) b q xs
  pub programs : (q k : ℕ) → write_answer (present (meaning a) r q k) (lives (meaning a) r) ≡ write_answer (present (shown es (meaning a)) b q k) (lives (shown es (meaning a)) b)
  pub program : (k : Kind) (q : ℕ) (xs : List ℕ) → meaning k ≡ after_program (meaning a) r q xs → shown es (meaning k) ≡ after_program (shown es (meaning a)) b q xs
  pub erases : write_answer (has_block (meaning a) r) (lives (meaning a) r) ≡ write_answer (has_block (shown es (meaning a)) b) (lives (shown es (meaning a)) b)
  pub erase : (k : Kind) → meaning k ≡ after_erase (meaning a) r → shown es (meaning k) ≡ after_erase (shown es (meaning a)) b
