-- The instruction codes: what each asks for, how many bytes are sent with it, and what the /WP pin has to do with it.
use Rattle.std.specs.Prelude.{ℕ, Bool, true, false, cond, List, [], ◌∷◌, ◌++◌, map, Option, ◌==◌, nat_le}
use Rattle.std.specs.List.{find, list_any}
use Rattle.frames.specs.declared.instruction.Simple.TheVariants.{Reset, EnableWrite, DisableWrite, Identify, ListLinks}
use Rattle.frames.specs.declared.instruction.RowOperation.TheVariants.{Program, Erase, Fetch}
use Rattle.frames.specs.declared.line.Group.{Group}
use Rattle.frames.specs.declared.line.Group.TheVariants.{Plain, ReadRegister, WriteRegister, Swap, AtRow, LoadBuffer, ReadBuffer}
use Rattle.frames.specs.declared.line.Count.{Count}
use Rattle.frames.specs.declared.line.Count.TheVariants.{Exactly, AtLeast}
use Rattle.frames.specs.declared.frame.Flags.{Flags}
use Rattle.frames.specs.declared.line.Line.{Line}

-- the codes of each group
abbrev pub groups : List (List ℕ × Group)
groups =
    (0xFF ∷ [], Plain Reset) ∷
    (0x06 ∷ [], Plain EnableWrite) ∷
    (0x04 ∷ [], Plain DisableWrite) ∷
    (0x9F ∷ [], Plain Identify) ∷
    (0xA5 ∷ [], Plain ListLinks) ∷
    (0x05 ∷ 0x0F ∷ [], ReadRegister) ∷
    (0x01 ∷ 0x1F ∷ [], WriteRegister) ∷
    (0xA1 ∷ [], Swap) ∷
    (0x10 ∷ [], AtRow Program) ∷
    (0xD8 ∷ [], AtRow Erase) ∷
    (0x13 ∷ [], AtRow Fetch) ∷
    (0x02 ∷ 0x32 ∷ [], LoadBuffer true) ∷
    (0x84 ∷ 0x34 ∷ [], LoadBuffer false) ∷
    (0x03 ∷ 0x0B ∷ 0x3B ∷ 0x6B ∷ 0xBB ∷ 0xEB ∷ 0x0C ∷ 0x3C ∷ 0x6C ∷ 0xBC ∷ [], ReadBuffer) ∷
    []

-- how many bytes are sent with a code, itself among them
abbrev pub counts : List (List ℕ × ℕ)
counts =
    (0xFF ∷ 0x06 ∷ 0x04 ∷ [], 1) ∷
    (0x9F ∷ 0xA5 ∷ 0x05 ∷ 0x0F ∷ [], 2) ∷
    (0x01 ∷ 0x1F ∷ [], 3) ∷
    (0x10 ∷ 0xD8 ∷ 0x13 ∷ 0x02 ∷ 0x84 ∷ 0x32 ∷ 0x34 ∷ 0x03 ∷ 0x0B ∷ 0x3B ∷ 0x6B ∷ 0xBB ∷ [], 4) ∷
    (0xA1 ∷ 0xEB ∷ [], 5) ∷
    (0x0C ∷ 0x3C ∷ 0x6C ∷ 0xBC ∷ [], 6) ∷
    []

-- codes with which more bytes than that may be sent
abbrev pub open_codes : List ℕ
open_codes = 0x02 ∷ 0x84 ∷ 0x32 ∷ 0x34 ∷ []

-- codes that need the /WP pin as a data line
abbrev pub quad_codes : List ℕ
quad_codes = 0x32 ∷ 0x34 ∷ 0x6B ∷ 0x6C ∷ 0xEB ∷ []

-- codes that write, which a low /WP pin may forbid
abbrev pub write_codes : List ℕ
write_codes = 0x01 ∷ 0x1F ∷ 0x02 ∷ 0x84 ∷ 0x10 ∷ 0xD8 ∷ 0xA1 ∷ []

abbrev pub in_list : ℕ → List ℕ → Bool
in_list c xs = list_any (λ x. c == x) xs

abbrev pub count_in : ℕ → List (List ℕ × ℕ) → ℕ
count_in c [] = 0
count_in c (x ∷ xs) = cond (in_list c x.0) x.1 (count_in c xs)

abbrev pub count_of : ℕ → Count
count_of c = cond (in_list c open_codes) (AtLeast (count_in c counts)) (Exactly (count_in c counts))

abbrev pub flags_of : ℕ → Flags
flags_of c = record { write = in_list c write_codes; quad = in_list c quad_codes }

-- a line of the table
abbrev pub line : Group → ℕ → Line
line g c = (c, g, count_of c, flags_of c)

abbrev pub lines_of : List (List ℕ × Group) → List Line
lines_of [] = []
lines_of (x ∷ xs) = map (line x.1) x.0 ++ lines_of xs

-- the first line with the code
abbrev pub first : ℕ → List Line → Option Line
first c lines = find (λ x. x.0 == c) lines

abbrev pub line_of : ℕ → Option Line
line_of c = first c (lines_of groups)

-- may this many bytes be sent
abbrev pub allowed : Count → ℕ → Bool
allowed (Exactly m) n = n == m
allowed (AtLeast m) n = nat_le m n
