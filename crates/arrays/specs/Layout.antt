-- How N lives and then the pages lie in bytes: 4 × N + 2,112 × N × P of them.
use Rattle.std.specs.Prelude.{ℕ, ◌+◌, ◌*◌, Bool, cond, ◌&&◌, List, [], length, take, drop, ◌==◌, count_ones, nat_le, nat_lt, slice_index}
use Rattle.arrays.specs.Store.{Store, nothing, page_size, most_blocks, most_pages}

-- k bytes from i on
abbrev pub part : ℕ → ℕ → List ℕ → List ℕ
part k i xs = take k (drop i xs)

-- four bytes as a number, high byte first
abbrev pub number : List ℕ → ℕ
number xs = slice_index xs 0 * 16777216 + slice_index xs 1 * 65536 + slice_index xs 2 * 256 + slice_index xs 3

-- where the life of block b begins, where its pages do, and where its page q does, in an array of n blocks of p pages
abbrev pub at_life : ℕ → ℕ
at_life b = 4 * b

abbrev pub at_block : ℕ → ℕ → ℕ → ℕ
at_block n p b = 4 * n + page_size * (b * p)

abbrev pub at_page : ℕ → ℕ → ℕ → ℕ → ℕ
at_page n p b q = 4 * n + page_size * (b * p + q)

-- a power of two, which is a number with one bit that is 1, from 1 to `most`
abbrev pub power_to : ℕ → ℕ → Bool
power_to most n = count_ones n == 1 && nat_le n most

-- do n blocks of p pages fit a length
abbrev pub fits : ℕ → ℕ → ℕ → Bool
fits n p len = power_to most_blocks n && (power_to most_pages p && len == 4 * n + page_size * (n * p))

-- the bytes of a page, and the life that the bytes hold for a block
abbrev pub page_in : ℕ → ℕ → List ℕ → ℕ → ℕ → List ℕ
page_in n p xs b q = cond (nat_lt b n && nat_lt q p) (part page_size (at_page n p b q) xs) []

abbrev pub life_in : ℕ → List ℕ → ℕ → ℕ
life_in n xs b = cond (nat_lt b n) (number (part 4 (at_life b) xs)) 0

-- an array of n blocks of p pages on these bytes, empty if they do not fit
abbrev pub laid : ℕ → ℕ → List ℕ → (ℕ → ℕ) → Store
laid n p xs life = cond (fits n p (length xs)) (record { blocks = n; pages = p; page = page_in n p xs; life = life }) nothing

-- a memory array has the lives that its bytes hold, and each life of a dump array counts as 0
unfoldable pub memory_store : ℕ → ℕ → List ℕ → Store
memory_store n p xs = laid n p xs (life_in n xs)

unfoldable pub dump_store : ℕ → ℕ → List ℕ → Store
dump_store n p xs = laid n p xs (λ _. 0)
