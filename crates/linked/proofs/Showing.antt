-- What a linked array shows, and what the calls of the array below do to it.
use Rattle.std.proofs.Common.{◌≡◌, ℕ, ◌-◌, ◌≤◌, Bool, true, false, cond, ◌&&◌, eqb, ltb, List, length, replicate, sym, refl, ap, ◌∙◌, subst, inl, inr, ⊎_elim}
use lib.Bits.{bit_and}
use lib.Lanes.{zip2}
use Rattle.std.proofs.lemmas.Bool.{cases_lt, cases_eq, lt-ltb, eq-eqb, ne_eqb}
use Rattle.arrays.specs.Store.{Store, Shape, page_size, has_block, present, lives, read_answer, write_answer, programmed, erased, after_program, after_erase}
use Rattle.links.specs.declared.entry.Entry.{Entry}
use Rattle.links.specs.Links.{sound, reach}
use Rattle.linked.specs.Shown.{shown, Through}
use Rattle.links.proofs.Reaching.{sound_apart, reach_within, reach_beyond, reach_one}

-- ---- reach among n blocks

pub reach_in : (n : ℕ) (es : List Entry) (x : ℕ) → ltb (reach n es x) n ≡ ltb x n
reach_in n es x =
    ⊎_elim (λ h. lt-ltb _ n (reach_within n es x h) ∙ sym (lt-ltb x n h)) (λ h. ap (λ y. ltb y n) (reach_beyond n es x h)) (cases_lt x n)

pub reach_same : (n : ℕ) (es : List Entry) (x y : ℕ) → sound es ≡ true → eqb (reach n es x) (reach n es y) ≡ eqb x y
reach_same n es x y s =
    ⊎_elim
    (λ e. eq-eqb _ _ (ap (reach n es) e) ∙ sym (eq-eqb x y e))
    (λ e. ne_eqb _ _ (λ h. e (reach_one n es (sound_apart es s) x y h)) ∙ sym (ne_eqb x y e))
    (cases_eq x y)

-- ---- the shape

pub shown_shape : (es : List Entry) (s : Store) → Shape s → Shape (shown es s)
shown_shape es s h = record {
  sizes = h.sizes;
  long = λ b q. λ lb lq. h.long (reach s.blocks es b) q (reach_within s.blocks es b lb) lq;
  small = λ b. h.small (reach s.blocks es b);
  no_page = λ b q o. h.no_page (reach s.blocks es b) q (⊎_elim (λ lb. inl (beyond b lb)) inr o);
  no_life = λ b lb. h.no_life (reach s.blocks es b) (beyond b lb);
}
  where
    beyond : (b : ℕ) → s.blocks ≤ b → s.blocks ≤ reach s.blocks es b
    beyond b lb = subst (λ y. s.blocks ≤ y) (sym (reach_beyond s.blocks es b lb)) lb

-- ---- the calls

module _ (es : List Entry) (s : Store) (ok : sound es ≡ true) (b r : ℕ) (at : r ≡ reach s.blocks es b) where
  has_shown : has_block s r ≡ has_block (shown es s) b
  has_shown = ap (λ y. ltb y s.blocks) at ∙ reach_in s.blocks es b

  present_shown : (q k : ℕ) → present s r q k ≡ present (shown es s) b q k
  present_shown q k = ap (λ t. (t && ltb q s.pages) && eqb k page_size) has_shown

  lives_shown : lives s r ≡ lives (shown es s) b
  lives_shown = ap (λ y. ltb 0 (s.life y)) at

  same : (c : ℕ) → eqb (reach s.blocks es c) r ≡ eqb c b
  same c = ap (eqb (reach s.blocks es c)) at ∙ reach_same s.blocks es c b ok

  shown_programmed : (q : ℕ) (xs : List ℕ) → shown es (programmed s r q xs) ≡ programmed (shown es s) b q xs
  shown_programmed q xs = λ i. record {
    blocks = s.blocks;
    pages = s.pages;
    page = λ c t. cond (same c i && eqb t q) (zip2 bit_and (s.page (reach s.blocks es c) t) xs) (s.page (reach s.blocks es c) t);
    life = λ c. s.life (reach s.blocks es c);
  }

  shown_erased : shown es (erased s r) ≡ erased (shown es s) b
  shown_erased = λ i. record {
    blocks = s.blocks;
    pages = s.pages;
    page = λ c t. cond (same c i && ltb t s.pages) (replicate page_size 255) (s.page (reach s.blocks es c) t);
    life = λ c. cond (same c i) (s.life (at i) - 1) (s.life (reach s.blocks es c));
  }

  either : (t u : Bool) (x y : Store) → t ≡ u → shown es x ≡ y → shown es (cond t x s) ≡ cond u y (shown es s)
  either t u x y e h = ap (λ v. shown es (cond v x s)) e ∙ pick u
    where
      pick : (v : Bool) → shown es (cond v x s) ≡ cond v y (shown es s)
      pick true = h
      pick false = refl

  program_shown : (t : Store) (q : ℕ) (xs : List ℕ) → t ≡ after_program s r q xs → shown es t ≡ after_program (shown es s) b q xs
  program_shown t q xs e = ap (shown es) e ∙ either _ _ _ _ (λ i. present_shown q (length xs) i && lives_shown i) (shown_programmed q xs)

  erase_shown : (t : Store) → t ≡ after_erase s r → shown es t ≡ after_erase (shown es s) b
  erase_shown t e = ap (shown es) e ∙ either _ _ _ _ (λ i. has_shown i && lives_shown i) shown_erased

pub through : {Kind : Type 0} (meaning : Kind → Store) (es : List Entry) (a : Kind) (ok : sound es ≡ true) (b r : ℕ) → r ≡ reach (meaning a).blocks es b → Through meaning es a b r
through meaning es a ok b r at =
    let s = meaning a in
    record {
      reads = λ q k. ap read_answer (present_shown es s ok b r at q k);
      area = λ q xs. λ i. cond (present_shown es s ok b r at q (length xs) i) (s.page (at i) q) xs;
      programs = λ q k. λ i. write_answer (present_shown es s ok b r at q k i) (lives_shown es s ok b r at i);
      program = λ k q xs e. program_shown es s ok b r at (meaning k) q xs e;
      erases = λ i. write_answer (has_shown es s ok b r at i) (lives_shown es s ok b r at i);
      erase = λ k e. erase_shown es s ok b r at (meaning k) e;
    }
