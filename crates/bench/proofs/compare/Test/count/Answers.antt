use Rattle.std.proofs.Common.{◌≡◌, ℕ, zero, suc, ◌≤◌, min, Bool, List, [], ◌∷◌, length, drop, refl, arith, length-take}
use Rattle.bench.specs.Compared.{places_where}
use Rattle.bench.proofs.compare.Test.count.Goals as goal

-- nothing is left to count past the shorter page
past : (t : ℕ → ℕ → Bool) (i : ℕ) (xs ys : List ℕ) → min (length xs) (length ys) ≤ i → places_where t (drop i xs) (drop i ys) ≡ 0
past t zero [] ys h = refl
past t (suc i) [] ys h = refl
past t zero (x ∷ xs) [] h = refl
past t (suc i) (x ∷ xs) [] h = none t (drop i xs)
  where
    none : (t : ℕ → ℕ → Bool) (xs : List ℕ) → places_where t xs [] ≡ 0
    none t [] = refl
    none t (x ∷ xs) = refl
past t zero (x ∷ xs) (y ∷ ys) h = absurd (omega arith)
past t (suc i) (x ∷ xs) (y ∷ ys) h = past t i xs ys (omega arith)

pub returns : goal.returns
returns g c =
    let left = past g.Self.Test.test c.loop-i.i c.args.old.now c.args.new.now (omega (arith, length-take c.min-both.result c.args.old.now)) in
    omega arith
