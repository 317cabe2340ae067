-- The count of a line that is found covers the values of its group.
use Rattle.std.proofs.Common.{◌≡◌, ℕ, true, eqb, List, [], ◌∷◌, Some}
use Rattle.std.proofs.lemmas.Bool.{and_parts, cond_both, leb-true}
use Rattle.frames.specs.declared.line.Line.{Line}
use Rattle.frames.specs.Instructions.{first}
use Rattle.frames.specs.Coverage.{covers, all_cover, Covered, needed, least_sent}

pub first_covers : (c : ℕ) (lines : List Line) → all_cover lines ≡ true → Covered (first c lines)
first_covers c [] h = tt
first_covers c (x ∷ xs) h =
    let p = and_parts (covers x) (all_cover xs) h in
    cond_both (eqb x.0 c) (Some x) (first c xs) Covered (λ _. leb-true (needed x.1) (least_sent x.2) p.0) (λ _. first_covers c xs p.1)
