-- What is said of all entries, by the words of the library that the chains over them mean.
use Rattle.std.proofs.Common.{◌≡◌, ℕ, ◌&&◌, ◌||◌, List, [], ◌∷◌, refl}
use Rattle.std.specs.List.{list_all, list_any}
use Rattle.links.specs.declared.entry.Entry.{Entry}
use Rattle.links.specs.Links.{is_used, full, holds, ends, linked, second}

pub full_all : (es : List Entry) → full es ≡ list_all is_used es
full_all [] = refl
full_all (e ∷ es) = λ i. is_used e && full_all es i

pub linked_any : (x : ℕ) (es : List Entry) → linked x es ≡ list_any (holds x) es
linked_any x [] = refl
linked_any x (e ∷ es) = λ i. holds x e || linked_any x es i

pub second_any : (x : ℕ) (es : List Entry) → second x es ≡ list_any (ends x) es
second_any x [] = refl
second_any x (e ∷ es) = λ i. ends x e || second_any x es i
