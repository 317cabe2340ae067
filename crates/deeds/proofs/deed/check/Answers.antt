use Rattle.std.proofs.Common.{◌≡◌, ℕ, ◌&&◌, List, length, false, Err, refl, ap}
use Rattle.std.proofs.lemmas.Bool.{ne_eqb, and_right}
use Rattle.deeds.specs.Deeds.{is_page}
use Rattle.deeds.proofs.deed.check.Goals as goal

-- an area of another length is as if the bytes had one
unfit : (bytes area : List ℕ) → (length area ≡ 2112 → ⊥) → (is_page bytes && is_page area) ≡ false
unfit bytes area h = and_right (is_page bytes) (is_page area) (ne_eqb (length area) 2112 h)

pub returns-in_default-as_mut_array-clause-chip : goal.returns-in_default-as_mut_array-clause-chip
returns-in_default-as_mut_array-clause-chip g c = rw (unfit c.args.bytes.now c.args.area.now c.in_default-as_mut_array.ensures.cases) refl

pub returns-in_default-as_mut_array-clause-answer : goal.returns-in_default-as_mut_array-clause-answer
returns-in_default-as_mut_array-clause-answer g c = rw (unfit c.args.bytes.now c.args.area.now c.in_default-as_mut_array.ensures.cases) (ap (λ f. Err f) c.wrong_length-in_default-as_mut_array.ensures)

pub returns-in_default-as_mut_array-clause-area : goal.returns-in_default-as_mut_array-clause-area
returns-in_default-as_mut_array-clause-area g c = rw (unfit c.args.bytes.now c.args.area.now c.in_default-as_mut_array.ensures.cases) refl
