-- The addresses that the seal of SR-1 covers.
use Rattle.std.specs.Prelude.{ℕ, ◌-◌, ◌^◌, Bool, true, false, cond, ◌==◌, nat_le, nat_lt}
use Rattle.rules.specs.Registers.{bp, tb}

-- the highest addresses at TB 0, the lowest at TB 1; every one where there are no more than `size`
abbrev pub covers_part : Bool → ℕ → ℕ → ℕ → Bool
covers_part lowest size n x = cond (nat_le n size) true (cond lowest (nat_lt x size) (nat_le (n - size) x))

-- does the seal cover address x of n: nothing at k 0, else 2 to the power k addresses
abbrev pub covers : ℕ → ℕ → ℕ → Bool
covers n sr1 x = cond (bp sr1 == 0) false (covers_part (tb sr1) (2 ^ bp sr1) n x)
