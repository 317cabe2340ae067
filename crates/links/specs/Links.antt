-- The link table: which block an address reaches, what a swap may not do, what a finished swap leaves, and the table's bytes.
use Rattle.std.specs.Prelude.{ℕ, ◌+◌, ◌/◌, ◌%◌, Bool, true, false, cond, not, ◌&&◌, ◌||◌, List, [], ◌∷◌, ◌++◌, map, replicate, Some, None, Option, Ok, Err, Result, ◌==◌, nat_lt}
use Rattle.std.specs.List.{flat_map}
use Rattle.std.specs.Option.{unwrap_or, option_or}
use Rattle.links.specs.declared.entry.Entry.{Entry}
use Rattle.links.specs.declared.entry.Entry.TheVariants.{Unused, Live, Retired}
use Rattle.links.specs.declared.swap.SwapError.{SwapError}
use Rattle.links.specs.declared.swap.SwapError.TheVariants.{Outside, Linked, Full}

-- the number of entries of a table
abbrev pub capacity : ℕ
capacity = 20

-- the table of a new card
abbrev pub no_links : List Entry
no_links = replicate capacity Unused

-- ---- what is used

abbrev pub is_used : Entry → Bool
is_used Unused = false
is_used (Live a b) = true
is_used (Retired a b) = true

abbrev pub used : List Entry → ℕ
used [] = 0
used (e ∷ es) = cond (is_used e) (1 + used es) (used es)

-- no entry is unused
abbrev pub full : List Entry → Bool
full [] = true
full (e ∷ es) = is_used e && full es

-- unused entries come last
abbrev pub unused_last : List Entry → Bool
unused_last [] = true
unused_last (e ∷ es) = cond (is_used e) (unused_last es) (used es == 0)

-- ---- addresses of live links

-- is x an address of the live link; is it the second one
abbrev pub holds : ℕ → Entry → Bool
holds x Unused = false
holds x (Live a b) = x == a || x == b
holds x (Retired a b) = false

abbrev pub ends : ℕ → Entry → Bool
ends x Unused = false
ends x (Live a b) = x == b
ends x (Retired a b) = false

-- is x an address of a live link; is it the second one of a live link
abbrev pub linked : ℕ → List Entry → Bool
linked x [] = false
linked x (e ∷ es) = holds x e || linked x es

abbrev pub second : ℕ → List Entry → Bool
second x [] = false
second x (e ∷ es) = ends x e || second x es

-- no address is twice in live links
abbrev pub apart : List Entry → Bool
apart [] = true
apart (Unused ∷ es) = apart es
apart (Live a b ∷ es) = (not (a == b) && (not (linked a es) && not (linked b es))) && apart es
apart (Retired a b ∷ es) = apart es

-- what holds of every table
abbrev pub sound : List Entry → Bool
sound es = unused_last es && apart es

-- ---- what an address reaches

-- what x becomes by an exchange of a and b: y if it is neither
abbrev pub exchange : ℕ → ℕ → ℕ → ℕ → ℕ
exchange a b x y = cond (x == a) b (cond (x == b) a y)

-- the other address of a live link, wholly below n, that has x
abbrev pub other : ℕ → Entry → ℕ → Option ℕ
other n Unused x = None
other n (Live a b) x = cond (nat_lt a n && nat_lt b n) (cond (x == a) (Some b) (cond (x == b) (Some a) None)) None
other n (Retired a b) x = None

-- the same among entries: links not wholly below n are passed over
abbrev pub partner : ℕ → List Entry → ℕ → Option ℕ
partner n [] x = None
partner n (e ∷ es) x = option_or (other n e x) (partner n es x)

-- the block that x reaches: its partner's, or its own
abbrev pub reach : ℕ → List Entry → ℕ → ℕ
reach n es x = unwrap_or (partner n es x) x

-- ---- swaps

-- a or b is not below n, or they are the same
abbrev pub outside : ℕ → ℕ → ℕ → Bool
outside n a b = not (nat_lt a n) || (not (nat_lt b n) || a == b)

-- b is in a live link, or a is second in one
abbrev pub taken : ℕ → ℕ → List Entry → Bool
taken a b es = linked b es || second a es

-- a swap may be done unless one of these holds or no entry is unused
abbrev pub may_swap : ℕ → ℕ → ℕ → List Entry → Bool
may_swap n a b es = not (outside n a b || (taken a b es || full es))

-- the first of these that holds is why it may not
abbrev pub swap_answer : ℕ → ℕ → ℕ → List Entry → Result (Unit {0}) SwapError
swap_answer n a b es = cond (outside n a b) (Err Outside) (cond (taken a b es) (Err Linked) (cond (full es) (Err Full) (Ok tt)))

-- the live link whose first address is a is retired
abbrev pub retired_if : ℕ → Entry → Entry
retired_if a Unused = Unused
retired_if a (Live c d) = cond (c == a) (Retired c d) (Live c d)
retired_if a (Retired c d) = Retired c d

abbrev pub retire : ℕ → List Entry → List Entry
retire a es = map (retired_if a) es

-- a, b is written into the first unused entry
abbrev pub place : ℕ → ℕ → List Entry → List Entry
place a b [] = []
place a b (e ∷ es) = cond (is_used e) (e ∷ place a b es) (Live a b ∷ es)

-- a finished swap of a and b
abbrev pub swapped : ℕ → ℕ → List Entry → List Entry
swapped a b es = place a b (retire a es)

-- a swap that may not be done leaves the table as it is
abbrev pub after_swap : ℕ → ℕ → ℕ → List Entry → List Entry
after_swap n a b es = cond (may_swap n a b es) (swapped a b es) es

-- ---- bytes

-- the low 16 bits of a number, high byte first
abbrev pub word : ℕ → List ℕ
word n = (n / 256 % 256) ∷ (n % 256) ∷ []

-- two words: 0 and 0, 8000h + a and b, or C000h + a and b
abbrev pub entry_bytes : Entry → List ℕ
entry_bytes Unused = word 0 ++ word 0
entry_bytes (Live a b) = word (0x8000 + a) ++ word b
entry_bytes (Retired a b) = word (0xC000 + a) ++ word b

abbrev pub table_bytes : List Entry → List ℕ
table_bytes es = flat_map entry_bytes es
