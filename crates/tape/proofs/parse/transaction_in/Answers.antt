use Rattle.std.proofs.Common.{◌≡◌, ℕ, ◌-◌, ◌≤◌, false, List, length, get_or, take, drop, length-drop, refl, arith, rules}
use Rattle.std.proofs.lemmas.Bool.{and_right, false_from_ne_true}
use Rattle.std.proofs.lemmas.Bool.Decides.{nat_tests}
use Rattle.std.proofs.lemmas.List.{take_all}
use Rattle.tape.specs.Lines.{are_bytes, is_transaction}
use Rattle.tape.proofs.parse.transaction_in.Goals.{in_default-via-then-line-lt8, in_default-via-else-line-lt8+in-84+in-88+in-32+in-32-line-4+in_default-1, in_default-via-else-line-lt8+in-84+in-88+in-32+in_default-1, in_default-via-else-line-lt8+in-84+in-88+in_default-1, in_default-via-else-line-lt8+in-84+in_default-1, in_default-via-else-line-lt8+in_default-1}
use Rattle.tape.proofs.parse.transaction_in.Goals as goal

no_head : (line : List ℕ) → (8 ≤ length line → get_or line 0 0 ≡ 84 → get_or line 1 0 ≡ 88 → get_or line 2 0 ≡ 32 → get_or line 4 0 ≡ 32 → get_or line 7 0 ≡ 32 → ⊥) → is_transaction line ≡ false
no_head line h = false_from_ne_true _ (λ e. h (grind (arith, nat_tests)) (grind (arith, nat_tests)) (grind (arith, nat_tests)) (grind (arith, nat_tests)) (grind (arith, nat_tests)) (grind (arith, nat_tests)))

no_bytes : (line : List ℕ) → are_bytes (take (length line - 8) (drop 8 line)) ≡ false → is_transaction line ≡ false
no_bytes line h =
    let rest : take (length line - 8) (drop 8 line) ≡ drop 8 line = take_all _ _ (omega (arith, length-drop 8 line)) in
    let here : are_bytes (drop 8 line) ≡ false = rw rest at h in
    search (and_right, here)

pub returns-in_default-clause-asked : goal.returns-in_default-clause-asked
returns-in_default-clause-asked c =
    elim c.in_default.branch [
      | in_default-via-then-line-lt8 w ↦ rw (no_head c.args.line.now (λ n t x a b d. grind arith)) refl
      | in_default-via-else-line-lt8+in-84+in-88+in-32+in-32-line-4+in_default-1 w ↦ rw (no_head c.args.line.now (λ n t x a b d. grind arith)) refl
      | in_default-via-else-line-lt8+in-84+in-88+in-32+in_default-1 w ↦ rw (no_head c.args.line.now (λ n t x a b d. grind arith)) refl
      | in_default-via-else-line-lt8+in-84+in-88+in_default-1 w ↦ rw (no_head c.args.line.now (λ n t x a b d. grind arith)) refl
      | in_default-via-else-line-lt8+in-84+in_default-1 w ↦ rw (no_head c.args.line.now (λ n t x a b d. grind arith)) refl
      | in_default-via-else-line-lt8+in_default-1 w ↦ rw (no_head c.args.line.now (λ n t x a b d. grind arith)) refl
    ]

pub returns-then-not-are_bytes-clause-asked : goal.returns-then-not-are_bytes-clause-asked
returns-then-not-are_bytes-clause-asked c = rw (no_bytes c.args.line.now (search rules)) refl
