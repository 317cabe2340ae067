-- The card agrees with the book, and what a call that leads on keeps.
use Rattle.std.proofs.Common.{◌≡◌, ℕ, ◌+◌, ◌<◌, ◌≤◌, true, false, length, get_or, Some, None, Option, refl, ap, arith}
use Rattle.arrays.specs.Store.{Store}
use Rattle.links.specs.declared.entry.Entry.TheVariants.{Unused}
use Rattle.links.specs.Links.{capacity, is_used, partner, apart, may_swap}
use Rattle.links.proofs.Inside.{inside}
use Rattle.rules.specs.declared.operation.Place.TheVariants.{Main, Otp}
use Rattle.rules.specs.declared.operation.Operation.{Operation}
use Rattle.rules.specs.declared.operation.Operation.TheVariants.{Load, Swap, Program, Erase, Lock}
use Rattle.rules.specs.declared.operation.Pending.{Pending}
use Rattle.rules.specs.Registers.{power_lock}
use Rattle.rules.specs.Chip.{Lasting, Passing, Chip, sealed}
use Rattle.rules.specs.Book.{Ledger, Book, Wait, no_wait, awaiting, swap_of, erase_of, lock_of, named}
use Rattle.rules.specs.Law.{Call, Moment, NoPowerCycle, page_at, stored_bit}
use Rattle.rules.proofs.Swaps.{table}

abbrev pub chip_of : Lasting → Passing → Chip
chip_of l s = record { lasting = l; passing = s }

abbrev pub moment : Lasting → Passing → Book → Moment
moment l s b = record { chip = chip_of l s; book = b }

-- ---- what was tested when an operation was taken, and still holds

-- the seal covers neither address of a swap nor the first one's partner
pub record Swappable (l : Lasting) (sr1 a b : ℕ) : Type 0 where
  pub may : may_swap l.main.blocks a b l.links ≡ true
  pub a_open : sealed l sr1 a ≡ false
  pub b_open : sealed l sr1 b ≡ false
  pub partner_open : (x : ℕ) → sealed l sr1 x ≡ true → partner l.main.blocks l.links a ≡ Some x → ⊥

pub record Erasable (l : Lasting) (sr1 : ℕ) (g : Ledger) (x left : ℕ) (w : Wait) : Type 0 where
  pub waits : w ≡ awaiting (erase_of (named g.swaps x)) left
  pub below : x < l.main.blocks
  pub open_erase : sealed l sr1 x ≡ false

-- the pending operation with what it needed, and what the book awaits
abbrev pub AwaitsEnd : Lasting → ℕ → Ledger → Operation → ℕ → Wait → Type 0
AwaitsEnd l sr1 g (Load place) left w = w ≡ no_wait
AwaitsEnd l sr1 g (Swap a b) left w = (w ≡ awaiting (swap_of a b) left) × Swappable l sr1 a b
AwaitsEnd l sr1 g (Program (Main x page)) left w = (w ≡ no_wait) × (sealed l sr1 x ≡ false)
AwaitsEnd l sr1 g (Program (Otp page)) left w = w ≡ no_wait
AwaitsEnd l sr1 g (Erase x) left w = Erasable l sr1 g x left w
AwaitsEnd l sr1 g (Lock locks) left w = w ≡ awaiting (lock_of locks.otp locks.sr1) left

abbrev pub Awaits : Lasting → ℕ → Ledger → Option Pending → Wait → Type 0
Awaits l sr1 g None w = w ≡ no_wait
Awaits l sr1 g (Some p) w = AwaitsEnd l sr1 g p.operation p.left w

-- ---- the card and the book at one moment

-- what lasts of the card, and what the book has finished
pub record Kept (main : Store) (l : Lasting) (g : Ledger) : Type 0 where
  pub blocks : l.main.blocks ≡ main.blocks
  pub pages : l.main.pages ≡ main.pages
  pub g_blocks : g.blocks ≡ main.blocks
  pub g_pages : g.pages ≡ main.pages
  pub g_lives : (b : ℕ) → g.lives b ≡ main.life b
  pub otp_l : l.otp_l ≡ g.otp_l
  pub sr1_l : l.sr1_l ≡ g.sr1_l
  pub links : l.links ≡ table capacity g.swaps
  pub most : length g.swaps ≤ capacity
  pub once : apart l.links ≡ true
  pub within : inside main.blocks l.links ≡ true
  pub lives : (b : ℕ) → main.life b ≡ l.main.life b + g.erases b

pub record Agrees (main : Store) (m : Moment) : Type 0 where
  pub kept : Kept main m.chip.lasting m.book.ledger
  pub sr1 : m.chip.passing.sr1 ≡ m.book.sr1
  pub awaits : Awaits m.chip.lasting m.chip.passing.sr1 m.book.ledger m.chip.passing.pending m.book.waits

-- ---- one call on

pub record Onward (main : Store) (i : Moment) (k : Call) (j : Moment) : Type 0 where
  pub agrees : Agrees main j
  pub seal_kept : (x : ℕ) → sealed i.chip.lasting i.chip.passing.sr1 x ≡ true → (p : ℕ) → page_at j x p ≡ page_at i x p
  pub power_kept : NoPowerCycle i k → power_lock i.chip.passing.sr1 ≡ true → j.chip.passing.sr1 ≡ i.chip.passing.sr1
  pub lock_kept : i.chip.lasting.sr1_l ≡ true → j.chip.passing.sr1 ≡ i.chip.passing.sr1
  pub bit_rise : (b p c k : ℕ) → stored_bit i.chip.lasting.main b p c k ≡ 0 → stored_bit j.chip.lasting.main b p c k ≡ 1 → i.book.ledger.erases b < j.book.ledger.erases b
  pub erases_grow : (b : ℕ) → i.book.ledger.erases b ≤ j.book.ledger.erases b
  pub otp_kept : (b p c k : ℕ) → stored_bit i.chip.lasting.otp b p c k ≡ 0 → stored_bit j.chip.lasting.otp b p c k ≡ 0
  pub otp_l_kept : i.chip.lasting.otp_l ≡ true → j.chip.lasting.otp_l ≡ true
  pub sr1_l_kept : i.chip.lasting.sr1_l ≡ true → j.chip.lasting.sr1_l ≡ true
  pub used_kept : (k : ℕ) → is_used (get_or i.chip.lasting.links k Unused) ≡ true → is_used (get_or j.chip.lasting.links k Unused) ≡ true

pub rise_none : (x : ℕ) → x ≡ 0 → x ≡ 1 → ⊥
rise_none x e f = omega arith

-- a call that leaves what lasts and what is finished
pub still : (main : Store) (l : Lasting) (s s' : Passing) (b b' : Book) (k : Call)
    → b'.ledger ≡ b.ledger
    → Agrees main (moment l s' b')
    → (NoPowerCycle (moment l s b) k → power_lock s.sr1 ≡ true → s'.sr1 ≡ s.sr1)
    → (l.sr1_l ≡ true → s'.sr1 ≡ s.sr1)
    → Onward main (moment l s b) k (moment l s' b')
still main l s s' b b' k g a pow lock = record {
  agrees = a;
  seal_kept = λ x _ p. refl;
  power_kept = pow;
  lock_kept = lock;
  bit_rise = λ d p c j e f. absurd (rise_none (stored_bit l.main d p c j) e f);
  erases_grow = λ d. let e = ap (λ (h : Ledger). h.erases d) g in omega arith;
  otp_kept = λ d p c j e. e;
  otp_l_kept = λ e. e;
  sr1_l_kept = λ e. e;
  used_kept = λ j e. e;
}
