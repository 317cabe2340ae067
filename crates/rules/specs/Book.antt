-- The book: it gets the calls, each transaction with its outcome, and nothing else.
use Rattle.std.specs.Prelude.{ℕ, ◌+◌, ◌-◌, Bool, false, cond, ◌&&◌, ◌||◌, List, [], ◌∷◌, ◌++◌, Ok, Err, ◌==◌, nat_lt}
use Rattle.arrays.specs.Store.{Store}
use Rattle.links.specs.Links.{exchange}
use Rattle.frames.specs.declared.instruction.RowOperation.{RowOperation}
use Rattle.frames.specs.declared.instruction.RowOperation.TheVariants.{Program, Erase, Fetch}
use Rattle.frames.specs.Frames.{Told, nothing, plain, read_register, write_register, swap, at_row, load_buffer, read_buffer, told}
use Rattle.rules.specs.Outcomes.{Outcome}
use Rattle.rules.specs.Registers.{power_up_sr1, is_sr1, is_sr2, new_otp_l, new_sr1_l}
use Rattle.rules.specs.Rows.{row_address}

-- a finished swap of two addresses
infix 20 ◌for◌
pub data Exchanged : Type 0 where
  ◌for◌ : ℕ → ℕ → Exchanged

-- what the last step awaited finishes
pub data Due : Type 0 where
  swap_of : ℕ → ℕ → Due
  erase_of : ℕ → Due
  lock_of : Bool → Bool → Due

-- with the number of steps awaited
pub data Wait : Type 0 where
  no_wait : Wait
  awaiting : Due → ℕ → Wait

-- N, P and lives at the start; locks, swaps and erases that are finished
pub record Ledger : Type 0 where
  pub blocks : ℕ
  pub pages : ℕ
  pub lives : ℕ → ℕ
  pub otp_l : Bool
  pub sr1_l : Bool
  pub swaps : List Exchanged
  pub erases : ℕ → ℕ

pub record Book : Type 0 where
  pub ledger : Ledger
  pub sr1 : ℕ
  pub waits : Wait

abbrev pub with_wait : Book → Wait → Book
with_wait b w = record { ledger = b.ledger; sr1 = b.sr1; waits = w }

-- ---- the block that the finished swaps name for an address

-- is a the first address of one of these swaps
abbrev pub again : ℕ → List Exchanged → Bool
again a [] = false
again a ((c for d) ∷ swaps) = a == c || again a swaps

-- a later swap drops an earlier one with the same first address; each that remains exchanges its two addresses
abbrev pub named : List Exchanged → ℕ → ℕ
named [] x = x
named ((a for b) ∷ later) x = cond (again a later) (named later x) (exchange a b x (named later x))

-- ---- the start

-- over the main array as it is, from swaps, locks and an SR-1 that are given
abbrev pub opened_with : Store → List Exchanged → Bool → Bool → ℕ → Book
opened_with s swaps otp_l sr1_l sr1 = record {
  ledger = record { blocks = s.blocks; pages = s.pages; lives = s.life; otp_l = otp_l; sr1_l = sr1_l; swaps = swaps; erases = λ _. 0 };
  sr1 = sr1;
  waits = no_wait;
}

-- of a new card
abbrev pub opened : Store → Book
opened s = opened_with s [] false false power_up_sr1

-- ---- a transaction

-- new lock bits make it wait for 4 steps
abbrev pub lock_wait : Bool → Bool → Wait → Wait
lock_wait otp sr1 w = cond (otp || sr1) (awaiting (lock_of otp sr1) 4) w

abbrev pub noted_write : Book → ℕ → ℕ → Book
noted_write b a v =
    cond (is_sr1 a) (record { ledger = b.ledger; sr1 = v; waits = b.waits })
    (cond (is_sr2 a) (with_wait b (lock_wait (new_otp_l b.ledger.otp_l v) (new_sr1_l b.ledger.sr1_l v) b.waits)) b)

-- an erase is of the block that is named for the row's address at this moment
abbrev pub noted_row : Book → RowOperation → ℕ → Book
noted_row b Program row = b
noted_row b Erase row = let g = b.ledger in with_wait b (awaiting (erase_of (named g.swaps (row_address g.blocks g.pages row))) 16)
noted_row b Fetch row = b

abbrev pub noted_taken : Book → Told → Book
noted_taken b nothing = b
noted_taken b (plain x) = b
noted_taken b (read_register a) = b
noted_taken b (write_register a v) = noted_write b a v
noted_taken b (swap x y) = with_wait b (awaiting (swap_of x y) 2)
noted_taken b (at_row x row) = noted_row b x row
noted_taken b (load_buffer refill column xs) = b
noted_taken b (read_buffer column) = b

abbrev pub noted_by : Book → Told → Outcome → Book
noted_by b i (Ok done) = noted_taken b i
noted_by b i (Err refusal) = b

abbrev pub noted : Book → List ℕ → Outcome → Book
noted b sent outcome = noted_by b (told sent) outcome

-- ---- a step

-- the last step awaited; an erase is finished if its block has fewer finished erases than its life at the start
abbrev pub settled : Due → Ledger → Ledger
settled (swap_of x y) g = record { blocks = g.blocks; pages = g.pages; lives = g.lives; otp_l = g.otp_l; sr1_l = g.sr1_l; swaps = g.swaps ++ ((x for y) ∷ []); erases = g.erases }
settled (erase_of k) g = record { blocks = g.blocks; pages = g.pages; lives = g.lives; otp_l = g.otp_l; sr1_l = g.sr1_l; swaps = g.swaps; erases = λ c. cond (c == k && nat_lt (g.erases c) (g.lives c)) (g.erases c + 1) (g.erases c) }
settled (lock_of otp sr1) g = record { blocks = g.blocks; pages = g.pages; lives = g.lives; otp_l = g.otp_l || otp; sr1_l = g.sr1_l || sr1; swaps = g.swaps; erases = g.erases }

abbrev pub ticked_by : Wait → Book → Book
ticked_by no_wait b = b
ticked_by (awaiting due left) b = cond (nat_lt 1 left) (with_wait b (awaiting due (left - 1))) (record { ledger = settled due b.ledger; sr1 = b.sr1; waits = no_wait })

abbrev pub ticked : Book → Book
ticked b = ticked_by b.waits b

-- ---- a power cycle

abbrev pub restarted : Book → Book
restarted b = record { ledger = b.ledger; sr1 = cond b.ledger.sr1_l b.sr1 power_up_sr1; waits = no_wait }
