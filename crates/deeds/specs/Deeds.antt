-- Open, write and check: the card, the answer and the check area that each leaves.
use Rattle.std.specs.Prelude.{ℕ, Bool, cond, ◌&&◌, List, [], ◌∷◌, length, Err, Result, ◌==◌, slice_index}
use Rattle.arrays.specs.Store.{page_size}
use Rattle.rules.specs.Chip.{Chip, blank_buffer}
use Rattle.faults.specs.declared.fault.Cause.TheVariants.{WrongLength}
use Rattle.faults.specs.declared.fault.Fault.{Fault}
use Rattle.deeds.specs.Sequences.{beginning, programming, fetching}
use Rattle.deeds.specs.Judged.{unless_worn, unless_different, told_at, value_if_taken}

pub record Deed (A : Type 0) : Type 0 where
  pub chip : Chip
  pub answer : Result A Fault

-- as long as a page
abbrev pub is_page : List ℕ → Bool
is_page xs = length xs == page_size

-- the SR-1 that was read
abbrev pub opened : Chip → Bool → Deed ℕ
opened c low =
    let s = beginning c low (255 ∷ []) in
    record { chip = s.chip; answer = told_at 0 (value_if_taken s.answer (slice_index s.area 0)) }

-- 16 is tried first
abbrev pub written : Chip → Bool → ℕ → List ℕ → Deed (Unit {0})
written c low row bytes =
    let s = programming c low row bytes (255 ∷ []) in
    record {
      chip = cond (is_page bytes) s.chip c;
      answer = told_at row (cond (is_page bytes) (unless_worn s.answer (slice_index s.area 0)) (Err WrongLength));
    }

abbrev pub checked : Chip → Bool → ℕ → List ℕ → List ℕ → Deed (Unit {0})
checked c low row bytes area =
    let s = fetching c low row blank_buffer in
    let fit = is_page bytes && is_page area in
    record {
      chip = cond fit s.chip c;
      answer = told_at row (cond fit (unless_different s.answer s.area bytes) (Err WrongLength));
    }

-- FFh throughout, until 03h gives the page
abbrev pub check_area : Chip → Bool → ℕ → List ℕ → List ℕ → List ℕ
check_area c low row bytes area = cond (is_page bytes && is_page area) (fetching c low row blank_buffer).area area
