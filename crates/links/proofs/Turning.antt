-- What a finished swap makes of reach: it turns the two addresses and the first one's former partner, and no other.
use Rattle.std.proofs.Common.{◌≡◌, ℕ, ◌<◌, Bool, true, false, cond, ◌&&◌, eqb, ltb, ◌⊎◌, List, [], ◌∷◌, Some, None, Option, unwrap_or, sym, refl, ap, ◌∙◌, subst, inl, inr, ⊎_elim, arith}
use Rattle.std.specs.Option.{option_or}
use Rattle.std.proofs.lemmas.Bool.{both_ways, cases_Bool, cases_eq, cond_both, cond-true, and_from, lt-ltb, eqb-true, eqb-false, eq-eqb}
use Rattle.std.proofs.lemmas.Bool.Decides.{nat_tests}
use Rattle.links.specs.declared.entry.Entry.{Entry}
use Rattle.links.specs.declared.entry.Entry.TheVariants.{Unused, Live, Retired}
use Rattle.links.specs.Links.{full, linked, apart, sound, exchange, partner, reach, may_swap, retire, place, swapped}
use Rattle.links.specs.LinkLaws.{Turned}
use Rattle.links.proofs.Reaching.{free, sound_apart, exchange_by, exchange_other, reach_live, reach_exchanges, reach_passes, reach_free, reach_back, reach_one, partner_reach}
use Rattle.links.proofs.Swapping.{Allowed, allowed, full_retire, retire_none, retire_apart, not_first, not_second, not_later, swapped_free}

-- what the partner by a live link and others can be
partner_live : (n c d : ℕ) (es : List Entry) (x y : ℕ) → partner n (Live c d ∷ es) x ≡ Some y → ((x ≡ c) × (y ≡ d)) ⊎ (((x ≡ d) × (y ≡ c)) ⊎ (partner n es x ≡ Some y))
partner_live n c d es x y = go (ltb c n && ltb d n) (eqb x c) (eqb x d) (eqb-true x c) (eqb-true x d)
  where
    go : (t u v : Bool) → (u ≡ true → x ≡ c) → (v ≡ true → x ≡ d) → option_or (cond t (cond u (Some d) (cond v (Some c) None)) None) (partner n es x) ≡ Some y → ((x ≡ c) × (y ≡ d)) ⊎ (((x ≡ d) × (y ≡ c)) ⊎ (partner n es x ≡ Some y))
    go false u v f g e = inr (inr e)
    go true true v f g e = inl (f refl, (cc))
    go true false true f g e = inr (inl (g refl, (cc)))
    go true false false f g e = inr (inr e)

-- no address is its own partner
pub partner_differs : (n : ℕ) (es : List Entry) → apart es ≡ true → (x y : ℕ) → partner n es x ≡ Some y → y ≡ x → ⊥
partner_differs n [] p x y e q = let z : ◌≡◌ {A = ℕ} 0 1 = cc in omega arith
partner_differs n (Unused ∷ es) p x y e q = partner_differs n es p x y e q
partner_differs n (Retired c d ∷ es) p x y e q = partner_differs n es p x y e q
partner_differs n (Live c d ∷ es) p x y e q =
    let f = free c d es p in
    ⊎_elim (λ h. f.differ (sym h.0 ∙ sym q ∙ h.1))
    (⊎_elim (λ h. f.differ (sym h.1 ∙ q ∙ h.0)) (λ h. partner_differs n es f.rest x y h q))
    (partner_live n c d es x y e)

-- an address that neither has a partner nor is one reaches its own block
pub reached_partner : (n : ℕ) (es : List Entry) (a x : ℕ) → (x ≡ a → ⊥) → (partner n es a ≡ Some x → ⊥) → reach n es a ≡ x → ⊥
reached_partner n es a x f g = go (partner n es a) refl
  where
    go : (o : Option ℕ) → partner n es a ≡ o → unwrap_or o a ≡ x → ⊥
    go None e h = f (sym h)
    go (Some y) e h = g (e ∙ ap Some h)

-- an address that is in neither place of a live link before others
pub reach_later : (n c d : ℕ) (es : List Entry) (x : ℕ) → (x ≡ c → ⊥) → (x ≡ d → ⊥) → reach n (Live c d ∷ es) x ≡ reach n es x
reach_later n c d es x f g =
    ⊎_elim (λ t. reach_exchanges n c d es x t ∙ exchange_other c d x (reach n es x) f g) (reach_passes n c d es x) (cases_Bool (ltb c n && ltb d n))

-- ---- a retired link

-- who is not the first address of the retired link, nor reached by it, reaches what it reached
pub retire_reach : (n a : ℕ) (es : List Entry) (x : ℕ) → apart es ≡ true → (x ≡ a → ⊥) → (reach n es a ≡ x → ⊥) → reach n (retire a es) x ≡ reach n es x
retire_reach n a [] x p f g = refl
retire_reach n a (Unused ∷ es) x p f g = retire_reach n a es x p f g
retire_reach n a (Retired c d ∷ es) x p f g = retire_reach n a es x p f g
retire_reach n a (Live c d ∷ es) x p f g =
    let h = free c d es p in
    cond_both (eqb c a) (Retired c d) (Live c d) (λ e. reach n (e ∷ retire a es) x ≡ reach n (Live c d ∷ es) x)
    (λ e.
    let ca = eqb-true c a e in
    let gone : linked a es ≡ false = subst (λ z. linked z es ≡ false) ca h.a_free in
    ap (λ t. reach n t x) (retire_none a es gone)
    ∙ sym (⊎_elim
    (λ t.
    let nd : x ≡ d → ⊥ = λ q. g (reach_exchanges n c d es a t ∙ cond-true (eqb a c) d _ (eq-eqb a c (sym ca)) ∙ sym q) in
    reach_exchanges n c d es x t ∙ exchange_other c d x (reach n es x) (λ q. f (q ∙ ca)) nd)
    (reach_passes n c d es x)
    (cases_Bool (ltb c n && ltb d n))))
    (λ e.
    let nac : a ≡ c → ⊥ = λ q. eqb-false c a e (sym q) in
    let same : reach n (retire a es) x ≡ reach n es x =
    ⊎_elim
    (λ q. ap (λ t. reach n t x) (retire_none a es (subst (λ z. linked z es ≡ false) (sym q) h.b_free)))
    (λ q. retire_reach n a es x h.rest f (λ o. g (reach_later n c d es a nac q ∙ o)))
    (cases_eq a d) in
    reach_live n c d (retire a es) x
    ∙ ap (λ y. cond (ltb c n && ltb d n) (exchange c d x y) y) same
    ∙ sym (reach_live n c d es x))

-- the former partner reaches its own block
pub retire_former : (n a : ℕ) (es : List Entry) (y : ℕ) → apart es ≡ true → linked a (retire a es) ≡ false → reach n es a ≡ y → reach n (retire a es) y ≡ y
retire_former n a es y p w e =
    let fs = retire a es in
    let q = retire_apart a es p in
    let z = reach n fs y in
    ⊎_elim
    (λ za. let ay : a ≡ y = sym (reach_free n fs a w) ∙ ap (reach n fs) (sym za) ∙ reach_back n fs q y in za ∙ ay)
    (λ za. ⊎_elim (λ zy. zy)
    (λ zy. absurd (za (reach_one n es p z a (sym (retire_reach n a es z p za (λ h. zy (sym h ∙ e))) ∙ reach_back n fs q y ∙ sym e))))
    (cases_eq z y))
    (cases_eq z a)

-- ---- a placed link

-- a link of two addresses that are in no other exchanges them
pub place_reach : (n a b : ℕ) (es : List Entry) (x : ℕ) → a < n → b < n → linked a es ≡ false → linked b es ≡ false → full es ≡ false → reach n (place a b es) x ≡ exchange a b x (reach n es x)
place_reach n a b [] x la lb f g h = absurd (both_ways true h refl)
place_reach n a b (Unused ∷ es) x la lb f g h = reach_exchanges n a b es x (and_from _ _ (lt-ltb a n la) (lt-ltb b n lb))
place_reach n a b (Retired c d ∷ es) x la lb f g h = place_reach n a b es x la lb f g h
place_reach n a b (Live c d ∷ es) x la lb f g h =
    let ih = place_reach n a b es x la lb (not_later a c d es f) (not_later b c d es g) h in
    let ca = not_first a c d es f in
    let da = not_second a c d es f in
    let cb = not_first b c d es g in
    let db = not_second b c d es g in
    reach_live n c d (place a b es) x
    ∙ ap (λ y. cond (ltb c n && ltb d n) (exchange c d x y) y) ih
    ∙ past (ltb c n && ltb d n) (reach n es x) ca da cb db
    ∙ sym (ap (exchange a b x) (reach_live n c d es x))
  where
    past : (t : Bool) (r : ℕ) → (c ≡ a → ⊥) → (d ≡ a → ⊥) → (c ≡ b → ⊥) → (d ≡ b → ⊥) → cond t (exchange c d x (exchange a b x r)) (exchange a b x r) ≡ exchange a b x (cond t (exchange c d x r) r)
    past true r ca da cb db = grind (arith, nat_tests)
    past false r ca da cb db = refl

-- ---- a swap

pub swapped_reach : (n a b : ℕ) (es : List Entry) (x : ℕ) → apart es ≡ true → Allowed n a b es → reach n (swapped a b es) x ≡ exchange a b x (reach n (retire a es) x)
swapped_reach n a b es x p w = let f = swapped_free n a b es p w in place_reach n a b (retire a es) x w.a_below w.b_below f.a_free f.b_free (full_retire a es ∙ w.room)

-- who is neither of the two, nor reached by the first before, reaches what it reached
pub swapped_other : (n a b : ℕ) (es : List Entry) (x : ℕ) → apart es ≡ true → Allowed n a b es → (x ≡ a → ⊥) → (x ≡ b → ⊥) → (reach n es a ≡ x → ⊥) → reach n (swapped a b es) x ≡ reach n es x
swapped_other n a b es x p w na nb nr =
    swapped_reach n a b es x p w ∙ exchange_other a b x (reach n (retire a es) x) na nb ∙ retire_reach n a es x p na nr

pub turned : (n a b : ℕ) (es : List Entry) → sound es ≡ true → may_swap n a b es ≡ true → Turned n a b es (swapped a b es)
turned n a b es s m =
    let p = sound_apart es s in
    let w = allowed n a b es m in
    let f = swapped_free n a b es p w in
    let turns = λ (x : ℕ). swapped_reach n a b es x p w in
    let b_own = reach_free n es b w.b_free in
    let not_b : reach n es a ≡ b → ⊥ = λ e. w.differ (reach_one n es p a b (e ∙ sym b_own)) in
    record {
      a_before = not_b;
      a_after = turns a ∙ exchange_by a b a (reach n (retire a es) a) (λ z. z ≡ b) (λ _. refl) (λ e. e) (λ h _. absurd (h refl));
      b_before = b_own;
      b_after = turns b ∙ exchange_by a b b (reach n (retire a es) b) (λ z. z ≡ a) (λ e. e) (λ _. refl) (λ _ h. absurd (h refl));
      former_before = λ y e. ap (reach n es) (sym (partner_reach n es a y e)) ∙ reach_back n es p a;
      former_after = λ y e.
          let ay = partner_reach n es a y e in
          turns y
          ∙ exchange_other a b y (reach n (retire a es) y) (partner_differs n es p a y e) (λ yb. not_b (ay ∙ yb))
          ∙ retire_former n a es y p f.a_free ay;
      others = λ x na nb no. swapped_other n a b es x p w na nb (reached_partner n es a x na no);
    }
