-- Tables whose live links are all wholly below n, as swaps that may be done make them.
use Rattle.std.proofs.Common.{◌≡◌, ℕ, ◌<◌, Bool, true, ◌&&◌, eqb, ltb, List, [], ◌∷◌, refl}
use Rattle.std.proofs.lemmas.Bool.{and_parts, and_from, cond_both, lt-ltb}
use Rattle.links.specs.declared.entry.Entry.{Entry}
use Rattle.links.specs.declared.entry.Entry.TheVariants.{Unused, Live, Retired}
use Rattle.links.specs.Links.{exchange, reach, retire, place, swapped}
use Rattle.links.proofs.Reaching.{reach_exchanges}
use Rattle.links.proofs.Swapping.{Allowed}

abbrev pub inside : ℕ → List Entry → Bool
inside n [] = true
inside n (Unused ∷ es) = inside n es
inside n (Live a b ∷ es) = (ltb a n && ltb b n) && inside n es
inside n (Retired a b ∷ es) = inside n es

-- there every live link exchanges
pub reach_inside : (n a b : ℕ) (es : List Entry) (x : ℕ) → inside n (Live a b ∷ es) ≡ true → reach n (Live a b ∷ es) x ≡ exchange a b x (reach n es x)
reach_inside n a b es x h = reach_exchanges n a b es x (and_parts (ltb a n && ltb b n) (inside n es) h).0

pub retire_inside : (n a : ℕ) (es : List Entry) → inside n es ≡ true → inside n (retire a es) ≡ true
retire_inside n a [] h = refl
retire_inside n a (Unused ∷ es) h = retire_inside n a es h
retire_inside n a (Retired c d ∷ es) h = retire_inside n a es h
retire_inside n a (Live c d ∷ es) h =
    let p = and_parts (ltb c n && ltb d n) (inside n es) h in
    let ih = retire_inside n a es p.1 in
    cond_both (eqb c a) (Retired c d) (Live c d) (λ e. inside n (e ∷ retire a es) ≡ true) (λ _. ih) (λ _. and_from (ltb c n && ltb d n) _ p.0 ih)

pub place_inside : (n a b : ℕ) (es : List Entry) → a < n → b < n → inside n es ≡ true → inside n (place a b es) ≡ true
place_inside n a b [] la lb h = refl
place_inside n a b (Unused ∷ es) la lb h = and_from (ltb a n && ltb b n) _ (and_from (ltb a n) _ (lt-ltb a n la) (lt-ltb b n lb)) h
place_inside n a b (Retired c d ∷ es) la lb h = place_inside n a b es la lb h
place_inside n a b (Live c d ∷ es) la lb h =
    let p = and_parts (ltb c n && ltb d n) (inside n es) h in
    and_from (ltb c n && ltb d n) _ p.0 (place_inside n a b es la lb p.1)

pub swapped_inside : (n a b : ℕ) (es : List Entry) → Allowed n a b es → inside n es ≡ true → inside n (swapped a b es) ≡ true
swapped_inside n a b es w h = place_inside n a b (retire a es) w.a_below w.b_below (retire_inside n a es h)
