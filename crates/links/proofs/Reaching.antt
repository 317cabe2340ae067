-- What addresses reach: reach is its own inverse while no address is twice in live links.
use Rattle.std.proofs.Common.{◌≡◌, ℕ, ◌<◌, ◌≤◌, Bool, true, false, cond, not, ◌&&◌, ◌||◌, eqb, ltb, List, [], ◌∷◌, Some, None, unwrap_or, sym, refl, ap, ◌∙◌, subst, ⊎_elim, arith}
use Rattle.std.specs.Option.{option_or}
use Rattle.std.proofs.lemmas.Bool.{or_parts, and_parts, not-true, cases_Bool, cond_both, cond-true, cond-false, eqb-true, eqb-false}
use Rattle.std.proofs.lemmas.Bool.Decides.{nat_tests}
use Rattle.links.specs.declared.entry.Entry.{Entry}
use Rattle.links.specs.declared.entry.Entry.TheVariants.{Unused, Live, Retired}
use Rattle.links.specs.Links.{linked, unused_last, apart, sound, exchange, partner, reach}
use Rattle.links.specs.LinkLaws.{Paired}

-- ---- one live link before others

-- what holds of a live link before es where no address is twice
pub record Free (a b : ℕ) (es : List Entry) : Type 0 where
  pub differ : a ≡ b → ⊥
  pub a_free : linked a es ≡ false
  pub b_free : linked b es ≡ false
  pub rest : apart es ≡ true

pub free : (a b : ℕ) (es : List Entry) → apart (Live a b ∷ es) ≡ true → Free a b es
free a b es p =
    let q = and_parts (not (eqb a b) && (not (linked a es) && not (linked b es))) (apart es) p in
    let r = and_parts (not (eqb a b)) (not (linked a es) && not (linked b es)) q.0 in
    let s = and_parts (not (linked a es)) (not (linked b es)) r.1 in
    record { differ = eqb-false a b (not-true _ r.0); a_free = not-true _ s.0; b_free = not-true _ s.1; rest = q.1 }

pub exchange_by : (a b x y : ℕ) (P : ℕ → Type 0) → (x ≡ a → P b) → (x ≡ b → P a) → ((x ≡ a → ⊥) → (x ≡ b → ⊥) → P y) → P (exchange a b x y)
exchange_by a b x y P f g h =
    cond_both (eqb x a) b (cond (eqb x b) a y) P (λ e. f (eqb-true x a e))
    (λ e. cond_both (eqb x b) a y P (λ d. g (eqb-true x b d)) (λ d. h (eqb-false x a e) (eqb-false x b d)))

pub exchange_other : (a b x y : ℕ) → (x ≡ a → ⊥) → (x ≡ b → ⊥) → exchange a b x y ≡ y
exchange_other a b x y f g = exchange_by a b x y (λ z. z ≡ y) (λ e. absurd (f e)) (λ e. absurd (g e)) (λ _ _. refl)

-- reach, link by link
pub reach_live : (n a b : ℕ) (es : List Entry) (x : ℕ) → reach n (Live a b ∷ es) x ≡ cond (ltb a n && ltb b n) (exchange a b x (reach n es x)) (reach n es x)
reach_live n a b es x = go (ltb a n && ltb b n) (eqb x a) (eqb x b)
  where
    go : (t u v : Bool) → unwrap_or (option_or (cond t (cond u (Some b) (cond v (Some a) None)) None) (partner n es x)) x ≡ cond t (cond u b (cond v a (reach n es x))) (reach n es x)
    go false u v = refl
    go true true v = refl
    go true false true = refl
    go true false false = refl

pub reach_exchanges : (n a b : ℕ) (es : List Entry) (x : ℕ) → (ltb a n && ltb b n) ≡ true → reach n (Live a b ∷ es) x ≡ exchange a b x (reach n es x)
reach_exchanges n a b es x t = reach_live n a b es x ∙ cond-true (ltb a n && ltb b n) _ _ t

pub reach_passes : (n a b : ℕ) (es : List Entry) (x : ℕ) → (ltb a n && ltb b n) ≡ false → reach n (Live a b ∷ es) x ≡ reach n es x
reach_passes n a b es x t = reach_live n a b es x ∙ cond-false (ltb a n && ltb b n) _ _ t

-- ---- all of them

pub reach_free : (n : ℕ) (es : List Entry) (x : ℕ) → linked x es ≡ false → reach n es x ≡ x
reach_free n [] x h = refl
reach_free n (Unused ∷ es) x h = reach_free n es x h
reach_free n (Retired a b ∷ es) x h = reach_free n es x h
reach_free n (Live a b ∷ es) x h =
    let ih : reach n es x ≡ x = reach_free n es x (or_parts (eqb x a || eqb x b) (linked x es) h).1 in
    let e = reach_live n a b es x in grind (arith, nat_tests)

pub reach_within : (n : ℕ) (es : List Entry) (x : ℕ) → x < n → reach n es x < n
reach_within n [] x h = h
reach_within n (Unused ∷ es) x h = reach_within n es x h
reach_within n (Retired a b ∷ es) x h = reach_within n es x h
reach_within n (Live a b ∷ es) x h = let ih = reach_within n es x h in let e = reach_live n a b es x in grind (arith, nat_tests)

-- a link that has x is not wholly below n if x is not
pub reach_beyond : (n : ℕ) (es : List Entry) (x : ℕ) → n ≤ x → reach n es x ≡ x
reach_beyond n [] x h = refl
reach_beyond n (Unused ∷ es) x h = reach_beyond n es x h
reach_beyond n (Retired a b ∷ es) x h = reach_beyond n es x h
reach_beyond n (Live a b ∷ es) x h = let ih = reach_beyond n es x h in let e = reach_live n a b es x in grind (arith, nat_tests)

pub reach_back : (n : ℕ) (es : List Entry) → apart es ≡ true → (x : ℕ) → reach n es (reach n es x) ≡ x
reach_back n [] p x = refl
reach_back n (Unused ∷ es) p x = reach_back n es p x
reach_back n (Retired a b ∷ es) p x = reach_back n es p x
reach_back n (Live a b ∷ es) p x =
    let f = free a b es p in
    let ih = reach_back n es f.rest in
    ⊎_elim
    (λ t.
    reach_exchanges n a b es (reach n (Live a b ∷ es) x) t
    ∙ subst (λ y. exchange a b y (reach n es y) ≡ x) (sym (reach_exchanges n a b es x t))
    (exchange_by a b x (reach n es x) (λ y. exchange a b y (reach n es y) ≡ x)
    (λ e. let d = f.differ in grind (arith, nat_tests))
    (λ e. let d = f.differ in grind (arith, nat_tests))
    (λ na nb.
    exchange_other a b (reach n es x) _
    (λ e. na (sym (ih x) ∙ ap (reach n es) e ∙ reach_free n es a f.a_free))
    (λ e. nb (sym (ih x) ∙ ap (reach n es) e ∙ reach_free n es b f.b_free))
    ∙ ih x)))
    (λ t. reach_passes n a b es (reach n (Live a b ∷ es) x) t ∙ ap (reach n es) (reach_passes n a b es x t) ∙ ih x)
    (cases_Bool (ltb a n && ltb b n))

pub reach_one : (n : ℕ) (es : List Entry) → apart es ≡ true → (x y : ℕ) → reach n es x ≡ reach n es y → x ≡ y
reach_one n es p x y e = sym (reach_back n es p x) ∙ ap (reach n es) e ∙ reach_back n es p y

pub sound_apart : (es : List Entry) → sound es ≡ true → apart es ≡ true
sound_apart es h = (and_parts (unused_last es) (apart es) h).1

pub paired : (n : ℕ) (es : List Entry) → sound es ≡ true → Paired n es
paired n es h = let p = sound_apart es h in record { back = reach_back n es p; within = reach_within n es; beyond = reach_beyond n es; one = reach_one n es p }

-- ---- partner and reach

pub partner_reach : (n : ℕ) (es : List Entry) (x y : ℕ) → partner n es x ≡ Some y → reach n es x ≡ y
partner_reach n es x y e = ap (λ o. unwrap_or o x) e
