-- A block that is erased several times.
use Rattle.std.specs.Prelude.{ℕ, zero, suc, min, cond}
use Rattle.arrays.specs.Store.{Store, has_block, after_erase}

-- the array after n erases of block b
abbrev pub erase_times : ℕ → Store → ℕ → Store
erase_times zero s b = s
erase_times (suc n) s b = after_erase (erase_times n s b) b

-- how many of `most` erases are done: as many as its life allows
abbrev pub erases_done : Store → ℕ → ℕ → ℕ
erases_done s b most = cond (has_block s b) (min most (s.life b)) 0
