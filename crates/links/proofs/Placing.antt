-- Where a new link is placed: at the first unused entry.
use Rattle.std.proofs.Common.{◌≡◌, ℕ, zero, suc, ◌<◌, ◌≤◌, cond, ltb, true, false, List, [], ◌∷◌, length, get_or, set, Some, None, not, sym, refl, ap, ◌∙◌, arith}
use Rattle.std.specs.Prelude.{position}
use Rattle.std.proofs.lemmas.Bool.{cond-true, cond-false, not-true, not-false}
use Rattle.std.proofs.lemmas.Bool.Decides.{nat_tests}
use Rattle.std.proofs.lemmas.List.Quantifiers.{position-Some}
use Rattle.std.proofs.lemmas.List.Sums.{fails_before_first}
use Rattle.links.specs.declared.entry.Entry.{Entry}
use Rattle.links.specs.declared.entry.Entry.TheVariants.{Unused, Live}
use Rattle.links.specs.Links.{is_used, place}

-- a link goes behind the used entries
behind : (a b : ℕ) (es : List Entry) (i : ℕ) → i < length es → is_used (get_or es i Unused) ≡ false → ((k : ℕ) → k < i → is_used (get_or es k Unused) ≡ true) → set es i (Live a b) ≡ place a b es
behind a b [] i l u f = absurd (omega arith)
behind a b (e ∷ es) zero l u f = sym (cond-false (is_used e) _ _ u)
behind a b (e ∷ es) (suc i) l u f =
    ap (λ t. e ∷ t) (behind a b es i (omega arith) u (λ k m. f (suc k) (omega arith))) ∙ sym (cond-true (is_used e) _ _ (f 0 (omega arith)))

pub place_at : (a b : ℕ) (es : List Entry) (i : ℕ) → position (λ e. not (is_used e)) es ≡ Some i → set es i (Live a b) ≡ place a b es
place_at a b es i h =
    let p = position-Some (λ e. not (is_used e)) es i Unused h in
    behind a b es i p.0 (not-true _ p.1) (λ k l. not-false _ (p.2 k l))

beyond : (p n : ℕ) → cond (ltb p n) (Some p) None ≡ None → n ≤ p
beyond p n h = grind (arith, nat_tests)

all_used : (a b : ℕ) (es : List Entry) → ((k : ℕ) → k < length es → is_used (get_or es k Unused) ≡ true) → place a b es ≡ es
all_used a b [] f = refl
all_used a b (e ∷ es) f = cond-true (is_used e) _ _ (f 0 (omega arith)) ∙ ap (λ t. e ∷ t) (all_used a b es (λ k l. f (suc k) (omega arith)))

pub place_full : (a b : ℕ) (es : List Entry) → position (λ e. not (is_used e)) es ≡ None → place a b es ≡ es
place_full a b es h =
    let past = beyond _ _ h in
    all_used a b es (λ k l. not-false _ (fails_before_first (λ e. not (is_used e)) es k Unused (omega arith)))
