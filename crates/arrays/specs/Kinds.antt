-- What a memory array and a dump array mean: the store that their bytes hold.
use Rattle.std.specs.Prelude.{◌≡◌, ℕ, ◌+◌, ◌≤◌, true, cond, length, Result, Ok, Err}
use Rattle.std.specs.declared.ops.Range.{Range}
use Rattle.arrays.specs.declared.memory.Memory.{Memory}
use Rattle.arrays.specs.declared.dump.Dump.{Dump}
use Rattle.arrays.specs.declared.error.ArrayError.{ArrayError}
use Rattle.arrays.specs.declared.error.ArrayError.TheVariants.{Worn, Absent}
use Rattle.arrays.specs.Store.{Store, page_size, has_block, lives, present}
use Rattle.arrays.specs.Layout.{at_page, memory_store, dump_store}

abbrev pub in_memory : Memory → Store
in_memory m = memory_store m.layout.blocks m.layout.pages m.bytes.now

abbrev pub in_dump : Dump → Store
in_dump d = dump_store d.layout.blocks d.layout.pages d.bytes.now

-- a memory array after a call stands on the same bytes with the same N and P
abbrev pub SamePlace : Memory → Memory → Type 0
SamePlace m k = (k.bytes.ghost_name ≡ m.bytes.ghost_name) × (k.layout ≡ m.layout)

-- the page exists, and lies at this place in the bytes
pub record PageIn (d : Dump) (block page size : ℕ) (place : Range ℕ) : Type 0 where
  pub exists : present (in_dump d) block page size ≡ true
  pub long : size ≡ page_size
  pub start : place.start ≡ at_page d.layout.blocks d.layout.pages block page
  pub end : place.end ≡ place.start + page_size
  pub inside : place.end ≤ length d.bytes.now

-- the life of a block that program and erase do not refuse
abbrev pub life_answer : Store → ℕ → Result ℕ ArrayError
life_answer s b = cond (has_block s b) (cond (lives s b) (Ok (s.life b)) (Err Worn)) (Err Absent)
