-- What a finished swap makes of a table: it keeps unused entries last and live links apart, and uses one entry more.
use Rattle.std.proofs.Common.{◌≡◌, ℕ, zero, suc, ◌+◌, ◌<◌, true, false, cond, not, ◌&&◌, ◌||◌, eqb, ltb, List, [], ◌∷◌, get_or, sym, refl, ap, ◌∙◌, arith}
use Rattle.std.proofs.lemmas.Bool.{both_ways, or_parts, or_from, and_parts, and_from, not-true, not-false, not_from_false, cond_both, ltb-true, eqb-true, eqb-false, eq-eqb, ne_eqb}
use Rattle.links.specs.declared.entry.Entry.{Entry}
use Rattle.links.specs.declared.entry.Entry.TheVariants.{Unused, Live, Retired}
use Rattle.links.specs.Links.{is_used, used, full, unused_last, linked, second, apart, sound, outside, taken, may_swap, retired_if, retire, place, swapped}
use Rattle.links.proofs.Reaching.{Free, free, sound_apart}

-- ---- what may be swapped

pub record Allowed (n a b : ℕ) (es : List Entry) : Type 0 where
  pub a_below : a < n
  pub b_below : b < n
  pub differ : a ≡ b → ⊥
  pub b_free : linked b es ≡ false
  pub a_first : second a es ≡ false
  pub room : full es ≡ false

pub allowed : (n a b : ℕ) (es : List Entry) → may_swap n a b es ≡ true → Allowed n a b es
allowed n a b es h =
    let p = or_parts (outside n a b) (taken a b es || full es) (not-true _ h) in
    let q = or_parts (not (ltb a n)) (not (ltb b n) || eqb a b) p.0 in
    let r = or_parts (not (ltb b n)) (eqb a b) q.1 in
    let s = or_parts (taken a b es) (full es) p.1 in
    let t = or_parts (linked b es) (second a es) s.0 in
    record {
      a_below = ltb-true a n (not-false _ q.0);
      b_below = ltb-true b n (not-false _ r.0);
      differ = eqb-false a b r.1;
      b_free = t.0;
      a_first = t.1;
      room = s.1;
    }

-- ---- a retired link

retired_used : (a : ℕ) (e : Entry) → is_used (retired_if a e) ≡ is_used e
retired_used a Unused = refl
retired_used a (Live c d) = cond_both (eqb c a) (Retired c d) (Live c d) (λ e. is_used e ≡ true) (λ _. refl) (λ _. refl)
retired_used a (Retired c d) = refl

pub used_retire : (a : ℕ) (es : List Entry) → used (retire a es) ≡ used es
used_retire a [] = refl
used_retire a (e ∷ es) = λ i. cond (retired_used a e i) (1 + used_retire a es i) (used_retire a es i)

pub full_retire : (a : ℕ) (es : List Entry) → full (retire a es) ≡ full es
full_retire a [] = refl
full_retire a (e ∷ es) = λ i. retired_used a e i && full_retire a es i

pub unused_last_retire : (a : ℕ) (es : List Entry) → unused_last (retire a es) ≡ unused_last es
unused_last_retire a [] = refl
unused_last_retire a (e ∷ es) = λ i. cond (retired_used a e i) (unused_last_retire a es i) (eqb (used_retire a es i) 0)

pub retire_free : (a : ℕ) (es : List Entry) (x : ℕ) → linked x es ≡ false → linked x (retire a es) ≡ false
retire_free a [] x h = refl
retire_free a (Unused ∷ es) x h = retire_free a es x h
retire_free a (Retired c d ∷ es) x h = retire_free a es x h
retire_free a (Live c d ∷ es) x h =
    let hs = or_parts (eqb x c || eqb x d) (linked x es) h in
    let ih = retire_free a es x hs.1 in
    cond_both (eqb c a) (Retired c d) (Live c d) (λ e. linked x (e ∷ retire a es) ≡ false) (λ _. ih) (λ _. or_from (eqb x c || eqb x d) _ hs.0 ih)

-- an address that is second in no live link is in none after its link is retired
pub retire_first : (a : ℕ) (es : List Entry) → second a es ≡ false → linked a (retire a es) ≡ false
retire_first a [] h = refl
retire_first a (Unused ∷ es) h = retire_first a es h
retire_first a (Retired c d ∷ es) h = retire_first a es h
retire_first a (Live c d ∷ es) h =
    let hs = or_parts (eqb a d) (second a es) h in
    let ih = retire_first a es hs.1 in
    cond_both (eqb c a) (Retired c d) (Live c d) (λ e. linked a (e ∷ retire a es) ≡ false) (λ _. ih)
    (λ e. or_from (eqb a c || eqb a d) _ (or_from (eqb a c) _ (ne_eqb a c (λ q. eqb-false c a e (sym q))) hs.0) ih)

-- with a in no live link there is nothing to retire
pub retire_none : (a : ℕ) (es : List Entry) → linked a es ≡ false → retire a es ≡ es
retire_none a [] h = refl
retire_none a (Unused ∷ es) h = ap (λ t. Unused ∷ t) (retire_none a es h)
retire_none a (Retired c d ∷ es) h = ap (λ t. Retired c d ∷ t) (retire_none a es h)
retire_none a (Live c d ∷ es) h =
    let hs = or_parts (eqb a c || eqb a d) (linked a es) h in
    let ih = retire_none a es hs.1 in
    cond_both (eqb c a) (Retired c d) (Live c d) (λ e. e ∷ retire a es ≡ Live c d ∷ es)
    (λ e. absurd (eqb-false a c (or_parts (eqb a c) (eqb a d) hs.0).0 (sym (eqb-true c a e))))
    (λ _. ap (λ t. Live c d ∷ t) ih)

-- a live link apart from the others
link_apart : (c d : ℕ) (es : List Entry) → Free c d es → apart (Live c d ∷ es) ≡ true
link_apart c d es f =
    and_from _ _
    (and_from (not (eqb c d)) _ (not_from_false _ (ne_eqb c d f.differ)) (and_from (not (linked c es)) _ (not_from_false _ f.a_free) (not_from_false _ f.b_free)))
    f.rest

pub retire_apart : (a : ℕ) (es : List Entry) → apart es ≡ true → apart (retire a es) ≡ true
retire_apart a [] p = refl
retire_apart a (Unused ∷ es) p = retire_apart a es p
retire_apart a (Retired c d ∷ es) p = retire_apart a es p
retire_apart a (Live c d ∷ es) p =
    let f = free c d es p in
    let ih = retire_apart a es f.rest in
    cond_both (eqb c a) (Retired c d) (Live c d) (λ e. apart (e ∷ retire a es) ≡ true) (λ _. ih)
    (λ _. link_apart c d (retire a es) (record { differ = f.differ; a_free = retire_free a es c f.a_free; b_free = retire_free a es d f.b_free; rest = ih }))

-- ---- a placed link

pub place_free : (a b : ℕ) (es : List Entry) (x : ℕ) → (x ≡ a → ⊥) → (x ≡ b → ⊥) → linked x es ≡ false → linked x (place a b es) ≡ false
place_free a b [] x f g h = refl
place_free a b (Unused ∷ es) x f g h = or_from (eqb x a || eqb x b) _ (or_from (eqb x a) _ (ne_eqb x a f) (ne_eqb x b g)) h
place_free a b (Retired c d ∷ es) x f g h = place_free a b es x f g h
place_free a b (Live c d ∷ es) x f g h =
    let hs = or_parts (eqb x c || eqb x d) (linked x es) h in
    or_from (eqb x c || eqb x d) _ hs.0 (place_free a b es x f g hs.1)

-- neither address of a live link is one that the table does not hold
pub not_first : (x c d : ℕ) (es : List Entry) → linked x (Live c d ∷ es) ≡ false → c ≡ x → ⊥
not_first x c d es h q = eqb-false x c (or_parts (eqb x c) (eqb x d) (or_parts (eqb x c || eqb x d) (linked x es) h).0).0 (sym q)

pub not_second : (x c d : ℕ) (es : List Entry) → linked x (Live c d ∷ es) ≡ false → d ≡ x → ⊥
not_second x c d es h q = eqb-false x d (or_parts (eqb x c) (eqb x d) (or_parts (eqb x c || eqb x d) (linked x es) h).0).1 (sym q)

pub not_later : (x c d : ℕ) (es : List Entry) → linked x (Live c d ∷ es) ≡ false → linked x es ≡ false
not_later x c d es h = (or_parts (eqb x c || eqb x d) (linked x es) h).1

pub place_apart : (a b : ℕ) (es : List Entry) → Free a b es → apart (place a b es) ≡ true
place_apart a b [] f = refl
place_apart a b (Unused ∷ es) f = link_apart a b es (record { differ = f.differ; a_free = f.a_free; b_free = f.b_free; rest = f.rest })
place_apart a b (Retired c d ∷ es) f = place_apart a b es (record { differ = f.differ; a_free = f.a_free; b_free = f.b_free; rest = f.rest })
place_apart a b (Live c d ∷ es) f =
    let h = free c d es f.rest in
    link_apart c d (place a b es)
    (record {
      differ = h.differ;
      a_free = place_free a b es c (not_first a c d es f.a_free) (not_first b c d es f.b_free) h.a_free;
      b_free = place_free a b es d (not_second a c d es f.a_free) (not_second b c d es f.b_free) h.b_free;
      rest = place_apart a b es (record { differ = f.differ; a_free = not_later a c d es f.a_free; b_free = not_later b c d es f.b_free; rest = h.rest });
    })

none_used : (es : List Entry) → used es ≡ 0 → unused_last es ≡ true
none_used [] h = refl
none_used (Unused ∷ es) h = eq-eqb (used es) 0 h
none_used (Live c d ∷ es) h = absurd (omega arith)
none_used (Retired c d ∷ es) h = absurd (omega arith)

pub unused_last_place : (a b : ℕ) (es : List Entry) → unused_last es ≡ true → unused_last (place a b es) ≡ true
unused_last_place a b [] h = refl
unused_last_place a b (Unused ∷ es) h = none_used es (eqb-true (used es) 0 h)
unused_last_place a b (Live c d ∷ es) h = unused_last_place a b es h
unused_last_place a b (Retired c d ∷ es) h = unused_last_place a b es h

pub used_place : (a b : ℕ) (es : List Entry) → full es ≡ false → used (place a b es) ≡ 1 + used es
used_place a b [] h = absurd (both_ways true h refl)
used_place a b (Unused ∷ es) h = refl
used_place a b (Live c d ∷ es) h = ap (λ k. 1 + k) (used_place a b es h)
used_place a b (Retired c d ∷ es) h = ap (λ k. 1 + k) (used_place a b es h)

-- ---- a swap

-- the two addresses are in no live link once the old one of the first is retired
pub swapped_free : (n a b : ℕ) (es : List Entry) → apart es ≡ true → Allowed n a b es → Free a b (retire a es)
swapped_free n a b es p w = record { differ = w.differ; a_free = retire_first a es w.a_first; b_free = retire_free a es b w.b_free; rest = retire_apart a es p }

pub swapped_apart : (n a b : ℕ) (es : List Entry) → apart es ≡ true → Allowed n a b es → apart (swapped a b es) ≡ true
swapped_apart n a b es p w = place_apart a b (retire a es) (swapped_free n a b es p w)

pub swapped_sound : (n a b : ℕ) (es : List Entry) → sound es ≡ true → may_swap n a b es ≡ true → sound (swapped a b es) ≡ true
swapped_sound n a b es h m =
    let last = (and_parts (unused_last es) (apart es) h).0 in
    and_from _ _ (unused_last_place a b (retire a es) (unused_last_retire a es ∙ last)) (swapped_apart n a b es (sound_apart es h) (allowed n a b es m))

pub swapped_used : (a b : ℕ) (es : List Entry) → full es ≡ false → used (swapped a b es) ≡ 1 + used es
swapped_used a b es h = used_place a b (retire a es) (full_retire a es ∙ h) ∙ ap (λ k. 1 + k) (used_retire a es)

-- a used entry stays used
retire_stays : (a : ℕ) (es : List Entry) (k : ℕ) → is_used (get_or (retire a es) k Unused) ≡ is_used (get_or es k Unused)
retire_stays a [] k = refl
retire_stays a (e ∷ es) zero = retired_used a e
retire_stays a (e ∷ es) (suc k) = retire_stays a es k

place_stays : (a b : ℕ) (es : List Entry) (k : ℕ) → is_used (get_or es k Unused) ≡ true → is_used (get_or (place a b es) k Unused) ≡ true
place_stays a b [] k h = h
place_stays a b (Unused ∷ es) zero h = refl
place_stays a b (Unused ∷ es) (suc k) h = h
place_stays a b (Live c d ∷ es) zero h = h
place_stays a b (Live c d ∷ es) (suc k) h = place_stays a b es k h
place_stays a b (Retired c d ∷ es) zero h = h
place_stays a b (Retired c d ∷ es) (suc k) h = place_stays a b es k h

pub swapped_stays : (a b : ℕ) (es : List Entry) (k : ℕ) → is_used (get_or es k Unused) ≡ true → is_used (get_or (swapped a b es) k Unused) ≡ true
swapped_stays a b es k h = place_stays a b (retire a es) k (retire_stays a es k ∙ h)
