-- What `find_map` answers over the entries: the first partner that an entry has for an address.
use Rattle.std.proofs.Common.{◌≡◌, ℕ, zero, suc, ◌<◌, List, [], ◌∷◌, length, get_or, Some, None, Option, sym, refl, ap, ◌∙◌, arith}
use Rattle.std.specs.Option.{option_or}
use Rattle.links.specs.declared.entry.Entry.{Entry}
use Rattle.links.specs.declared.entry.Entry.TheVariants.{Unused}
use Rattle.links.specs.Links.{other, partner}

partner_none : (n : ℕ) (es : List Entry) (x : ℕ) → ((k : ℕ) → k < length es → other n (get_or es k Unused) x ≡ None) → partner n es x ≡ None
partner_none n [] x f = refl
partner_none n (e ∷ es) x f = ap (λ o. option_or o (partner n es x)) (f 0 (omega arith)) ∙ partner_none n es x (λ k l. f (suc k) (omega arith))

partner_first : (n : ℕ) (es : List Entry) (x y i : ℕ) → i < length es → other n (get_or es i Unused) x ≡ Some y → ((k : ℕ) → k < i → other n (get_or es k Unused) x ≡ None) → partner n es x ≡ Some y
partner_first n [] x y i l h f = absurd (omega arith)
partner_first n (e ∷ es) x y zero l h f = ap (λ o. option_or o (partner n es x)) h
partner_first n (e ∷ es) x y (suc i) l h f =
    ap (λ o. option_or o (partner n es x)) (f 0 (omega arith)) ∙ partner_first n es x y i (omega arith) h (λ k m. f (suc k) (omega arith))

pub partner_found : (n : ℕ) (es : List Entry) (x : ℕ) (r : Option ℕ) → (r ≡ None → (k : ℕ) → k < length es → other n (get_or es k Unused) x ≡ None)
    → ((y : ℕ) → r ≡ Some y → (i : ℕ) × (i < length es) × (other n (get_or es i Unused) x ≡ Some y) × ((k : ℕ) → k < i → other n (get_or es k Unused) x ≡ None))
    → r ≡ partner n es x
partner_found n es x None f g = sym (partner_none n es x (f refl))
partner_found n es x (Some y) f g = let h = g y refl in sym (partner_first n es x y h.0 h.1 h.2 h.3)
