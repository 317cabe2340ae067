-- The table that the finished swaps of the book make, and what it names.
use Rattle.std.proofs.Common.{◌≡◌, ℕ, zero, suc, ◌+◌, ◌<◌, ◌≤◌, Bool, true, false, cond, ◌&&◌, ◌||◌, eqb, ltb, List, [], ◌∷◌, ◌++◌, length, replicate, sym, refl, ap, ◌∙◌, arith}
use Rattle.std.proofs.lemmas.Bool.{both_ways, and_parts}
use Rattle.links.specs.declared.entry.Entry.{Entry}
use Rattle.links.specs.declared.entry.Entry.TheVariants.{Unused, Live, Retired}
use Rattle.links.specs.Links.{used, full, exchange, reach, retire, place, swapped}
use Rattle.links.proofs.Inside.{inside, reach_inside}
use Rattle.rules.specs.Book.{Exchanged, ◌for◌, again, named}

-- a swap is retired if a later one has its first address
abbrev pub entry : Bool → ℕ → ℕ → Entry
entry later a b = cond later (Retired a b) (Live a b)

-- r entries in all
abbrev pub table : ℕ → List Exchanged → List Entry
table r [] = replicate r Unused
table zero (s ∷ ss) = []
table (suc r) ((a for b) ∷ ss) = entry (again a ss) a b ∷ table r ss

-- ---- one swap more

unused_retire : (a r : ℕ) → retire a (replicate r Unused) ≡ replicate r Unused
unused_retire a zero = refl
unused_retire a (suc r) = ap (λ u. Unused ∷ u) (unused_retire a r)

again_last : (c a b : ℕ) (ss : List Exchanged) → again c (ss ++ ((a for b) ∷ [])) ≡ (again c ss || eqb c a)
again_last c a b [] = elim (eqb c a) as (λ q. (q || false) ≡ q) [ true ↦ refl | false ↦ refl ]
again_last c a b ((x for y) ∷ ss) =
    ap (λ z. eqb c x || z) (again_last c a b ss)
    ∙ elim (eqb c x) as (λ q. (q || (again c ss || eqb c a)) ≡ ((q || again c ss) || eqb c a)) [ true ↦ refl | false ↦ refl ]

swapped_head : (a b c d : ℕ) (g : Bool) (t : List Entry) → swapped a b (entry g c d ∷ t) ≡ entry (g || eqb c a) c d ∷ swapped a b t
swapped_head a b c d true t = refl
swapped_head a b c d false t = elim (eqb c a) as (λ q. place a b (entry q c d ∷ retire a t) ≡ entry q c d ∷ swapped a b t) [ true ↦ refl | false ↦ refl ]

pub swapped_table : (a b r : ℕ) (ss : List Exchanged) → length ss < r → swapped a b (table r ss) ≡ table r (ss ++ ((a for b) ∷ []))
swapped_table a b zero ss h = absurd (omega arith)
swapped_table a b (suc r) [] h = ap (λ u. Live a b ∷ u) (unused_retire a r)
swapped_table a b (suc r) ((c for d) ∷ ss) h =
    swapped_head a b c d (again c ss) (table r ss)
    ∙ ap (λ u. entry (again c ss || eqb c a) c d ∷ u) (swapped_table a b r ss (omega arith))
    ∙ ap (λ g. entry g c d ∷ table r (ss ++ ((a for b) ∷ []))) (sym (again_last c a b ss))

-- ---- what an address reaches is what the swaps name

unused_reach : (n r x : ℕ) → reach n (replicate r Unused) x ≡ x
unused_reach n zero x = refl
unused_reach n (suc r) x = unused_reach n r x

named_head : (n a b x y : ℕ) (g : Bool) (t : List Entry) → inside n (entry g a b ∷ t) ≡ true → (inside n t ≡ true → reach n t x ≡ y) → reach n (entry g a b ∷ t) x ≡ cond g y (exchange a b x y)
named_head n a b x y true t p ih = ih p
named_head n a b x y false t p ih = reach_inside n a b t x p ∙ ap (exchange a b x) (ih (and_parts (ltb a n && ltb b n) (inside n t) p).1)

pub named_table : (n r : ℕ) (ss : List Exchanged) (x : ℕ) → length ss ≤ r → inside n (table r ss) ≡ true → reach n (table r ss) x ≡ named ss x
named_table n r [] x h p = unused_reach n r x
named_table n zero ((a for b) ∷ ss) x h p = absurd (omega arith)
named_table n (suc r) ((a for b) ∷ ss) x h p = named_head n a b x (named ss x) (again a ss) (table r ss) p (named_table n r ss x (omega arith))

-- ---- how many entries are used

unused_used : (r : ℕ) → used (replicate r Unused) ≡ 0
unused_used zero = refl
unused_used (suc r) = unused_used r

used_head : (g : Bool) (a b : ℕ) (t : List Entry) → used (entry g a b ∷ t) ≡ 1 + used t
used_head true a b t = refl
used_head false a b t = refl

pub used_table : (r : ℕ) (ss : List Exchanged) → length ss ≤ r → used (table r ss) ≡ length ss
used_table r [] h = unused_used r
used_table zero (s ∷ ss) h = absurd (omega arith)
used_table (suc r) ((a for b) ∷ ss) h = let ih = used_table r ss (omega arith) in omega (arith, used_head (again a ss) a b (table r ss))

full_head : (g : Bool) (a b : ℕ) (t : List Entry) → full (entry g a b ∷ t) ≡ false → full t ≡ false
full_head true a b t h = h
full_head false a b t h = h

-- a table with an unused entry has room for one swap more
pub room_table : (r : ℕ) (ss : List Exchanged) → full (table r ss) ≡ false → length ss < r
room_table zero [] h = absurd (both_ways true h refl)
room_table (suc r) [] h = omega arith
room_table zero (s ∷ ss) h = absurd (both_ways true h refl)
room_table (suc r) ((a for b) ∷ ss) h = let ih = room_table r ss (full_head (again a ss) a b (table r ss) h) in omega arith
