-- How many entries are used: at most as many as there are, and all of them in a full table; a swap leaves the number of entries.
use Rattle.std.proofs.Common.{◌≡◌, ℕ, ◌<◌, ◌≤◌, true, false, List, [], ◌∷◌, length, refl, ◌∙◌, arith}
use Rattle.std.proofs.lemmas.List.{length-map}
use Rattle.std.proofs.lemmas.Bool.{both_ways}
use Rattle.links.specs.declared.entry.Entry.{Entry}
use Rattle.links.specs.declared.entry.Entry.TheVariants.{Unused, Live, Retired}
use Rattle.links.specs.Links.{used, full, retired_if, retire, place, swapped}

pub used_most : (es : List Entry) → used es ≤ length es
used_most [] = omega arith
used_most (Unused ∷ es) = let ih = used_most es in omega arith
used_most (Live a b ∷ es) = let ih = used_most es in omega arith
used_most (Retired a b ∷ es) = let ih = used_most es in omega arith

pub used_full : (es : List Entry) → full es ≡ true → used es ≡ length es
used_full [] h = refl
used_full (Unused ∷ es) h = absurd (both_ways false refl h)
used_full (Live a b ∷ es) h = let ih = used_full es h in omega arith
used_full (Retired a b ∷ es) h = let ih = used_full es h in omega arith

pub used_room : (es : List Entry) → full es ≡ false → used es < length es
used_room [] h = absurd (both_ways true h refl)
used_room (Unused ∷ es) h = let most = used_most es in omega arith
used_room (Live a b ∷ es) h = let ih = used_room es h in omega arith
used_room (Retired a b ∷ es) h = let ih = used_room es h in omega arith

pub length_place : (a b : ℕ) (es : List Entry) → length (place a b es) ≡ length es
length_place a b [] = refl
length_place a b (Unused ∷ es) = refl
length_place a b (Live c d ∷ es) = let ih = length_place a b es in omega arith
length_place a b (Retired c d ∷ es) = let ih = length_place a b es in omega arith

pub length_swapped : (a b : ℕ) (es : List Entry) → length (swapped a b es) ≡ length es
length_swapped a b es = length_place a b (retire a es) ∙ length-map es (retired_if a)
