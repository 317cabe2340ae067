-- Sealed calibration: the law over every run of calls on a new card, beside the book that is told these calls.
use Rattle.std.specs.Prelude.{◌≡◌, ℕ, ◌+◌, ◌<◌, ◌≤◌, Bool, true, List, length, slice_index, slice_index_or}
use Rattle.arrays.specs.Store.{Store, Shape}
use Rattle.links.specs.declared.entry.Entry.TheVariants.{Unused}
use Rattle.links.specs.Links.{capacity, is_used, used}
use Rattle.rules.specs.Registers.{bit, power_lock}
use Rattle.rules.specs.Seal.{covers}
use Rattle.rules.specs.Chip.{Chip, reached, linked_main}
use Rattle.rules.specs.Calls.{transact, step, power_cycle, new_card}
use Rattle.rules.specs.Book.{Book, named, opened, noted, ticked, restarted}

-- ---- runs

-- a transaction has its sent bytes, whether /WP is low, and the length of its area
pub data Call : Type 0 where
  transaction : List ℕ → Bool → ℕ → Call
  one_step : Call
  power_cycled : Call

-- the card and the book at one moment
pub record Moment : Type 0 where
  pub chip : Chip
  pub book : Book

abbrev pub next : Moment → Call → Moment
next m (transaction sent low n) = let r = transact m.chip sent low n in record { chip = r.chip; book = noted m.book sent r.outcome }
next m one_step = record { chip = (step m.chip).chip; book = ticked m.book }
next m power_cycled = record { chip = power_cycle m.chip; book = restarted m.book }

-- a new card over two stores, and its book
abbrev pub new : Store → Store → Moment
new main otp = record { chip = new_card main otp; book = opened main }

-- a run from one moment to a later one, call by call
pub data Run : Moment → Moment → Type 0 where
  rest : {i : Moment} → Run i i
  then : {i j : Moment} → Run i j → (k : Call) → Run i (next j k)

-- Q holds before each call of the run
abbrev pub Throughout : (Moment → Call → Type 0) → {i j : Moment} → Run i j → Type 0
Throughout Q rest = Unit {0}
Throughout Q (then {j = j} r k) = Throughout Q r × Q j k

-- ---- what the law speaks of

-- by the book's SR-1 the seal covers address x
abbrev pub Sealed : ℕ → Moment → Call → Type 0
Sealed x m k = covers m.book.ledger.blocks m.book.sr1 x ≡ true

abbrev pub NoPowerCycle : Moment → Call → Type 0
NoPowerCycle m (transaction sent low n) = Unit {0}
NoPowerCycle m one_step = Unit {0}
NoPowerCycle m power_cycled = ⊥

-- page p at address x: of the block that x reaches
abbrev pub page_at : Moment → ℕ → ℕ → List ℕ
page_at m x p = (linked_main m.chip.lasting).page x p

-- bit k of byte c of page p of block b
abbrev pub stored_bit : Store → ℕ → ℕ → ℕ → ℕ → ℕ
stored_bit s b p c k = bit k (slice_index (s.page b p) c)

-- ---- the law: at a moment i, and over a stretch from i to j

pub record Calibrated (main : Store) (i j : Moment) (r : Run i j) : Type 0 where
  -- what is sealed stays, and what is locked stays sealed
  pub sealed_stays : (x p : ℕ) → x < main.blocks → Throughout (Sealed x) r → page_at j x p ≡ page_at i x p
  pub power_locked : power_lock i.book.sr1 ≡ true → Throughout NoPowerCycle r → j.chip.passing.sr1 ≡ i.chip.passing.sr1
  pub sr1_locked : i.book.ledger.sr1_l ≡ true → j.chip.passing.sr1 ≡ i.chip.passing.sr1
  -- only a finished erase raises a bit, and nothing else is undone
  pub bit_rises : (b p c k : ℕ) → stored_bit i.chip.lasting.main b p c k ≡ 0 → stored_bit j.chip.lasting.main b p c k ≡ 1 → i.book.ledger.erases b < j.book.ledger.erases b
  pub otp_never : (b p c k : ℕ) → stored_bit i.chip.lasting.otp b p c k ≡ 0 → stored_bit j.chip.lasting.otp b p c k ≡ 0
  pub otp_l_stays : i.chip.lasting.otp_l ≡ true → j.chip.lasting.otp_l ≡ true
  pub sr1_l_stays : i.chip.lasting.sr1_l ≡ true → j.chip.lasting.sr1_l ≡ true
  pub entry_stays : (k : ℕ) → is_used (slice_index_or i.chip.lasting.links k Unused) ≡ true → is_used (slice_index_or j.chip.lasting.links k Unused) ≡ true
  pub life_spent : (b : ℕ) → main.life b ≡ i.chip.lasting.main.life b + i.book.ledger.erases b
  -- the book knows the card
  pub one_to_one : (x y : ℕ) → x < main.blocks → y < main.blocks → reached i.chip.lasting x ≡ reached i.chip.lasting y → x ≡ y
  pub as_named : (x : ℕ) → x < main.blocks → reached i.chip.lasting x ≡ named i.book.ledger.swaps x
  pub same_sr1 : i.chip.passing.sr1 ≡ i.book.sr1
  pub same_otp_l : i.chip.lasting.otp_l ≡ i.book.ledger.otp_l
  pub same_sr1_l : i.chip.lasting.sr1_l ≡ i.book.ledger.sr1_l
  pub entries : used i.chip.lasting.links ≡ length i.book.ledger.swaps
  pub entries_most : length i.book.ledger.swaps ≤ capacity

abbrev pub SealedCalibration : Type 0
SealedCalibration = (main otp : Store) → Shape main → Shape otp → (i j : Moment) → Run (new main otp) i → (r : Run i j) → Calibrated main i j r
