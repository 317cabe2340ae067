-- The state of a card: what lasts over a power cycle, and what a power cycle resets.
use Rattle.std.specs.Prelude.{ℕ, Bool, not, ◌&&◌, List, replicate, is_some, Some, Option, ◌==◌}
use Rattle.arrays.specs.Store.{Store, page_size}
use Rattle.links.specs.declared.entry.Entry.{Entry}
use Rattle.links.specs.Links.{reach}
use Rattle.linked.specs.Shown.{shown}
use Rattle.rules.specs.declared.flags.Flags.{Flags}
use Rattle.rules.specs.declared.operation.Operation.{Operation}
use Rattle.rules.specs.declared.operation.Pending.{Pending}
use Rattle.rules.specs.Seal.{covers}

pub record Lasting : Type 0 where
  pub main : Store
  pub otp : Store
  pub links : List Entry
  pub otp_l : Bool
  pub sr1_l : Bool

pub record Passing : Type 0 where
  pub sr1 : ℕ
  pub flags : Flags
  pub buffer : List ℕ
  pub pending : Option Pending

pub record Chip : Type 0 where
  pub lasting : Lasting
  pub passing : Passing

-- ---- what a state gives

-- an operation with so many steps left
abbrev pub doing : Operation → ℕ → Option Pending
doing operation left = Some (record { operation = operation; left = left })

abbrev pub busy : Option Pending → Bool
busy = is_some

-- the main array is not empty, and the OTP array has 1 block of 16 pages
abbrev pub fit : Lasting → Bool
fit l = not (l.main.blocks == 0) && (l.otp.blocks == 1 && l.otp.pages == 16)

-- the block that address x reaches, and the main array under its links
abbrev pub reached : Lasting → ℕ → ℕ
reached l x = reach l.main.blocks l.links x

abbrev pub linked_main : Lasting → Store
linked_main l = shown l.links l.main

-- the seal goes by the address
abbrev pub sealed : Lasting → ℕ → ℕ → Bool
sealed l sr1 x = covers l.main.blocks sr1 x

abbrev pub blank_buffer : List ℕ
blank_buffer = replicate page_size 255

-- ---- one part changed

abbrev pub with_main : Store → Lasting → Lasting
with_main s l = record { main = s; otp = l.otp; links = l.links; otp_l = l.otp_l; sr1_l = l.sr1_l }

abbrev pub with_otp : Store → Lasting → Lasting
with_otp s l = record { main = l.main; otp = s; links = l.links; otp_l = l.otp_l; sr1_l = l.sr1_l }

abbrev pub with_links : List Entry → Lasting → Lasting
with_links es l = record { main = l.main; otp = l.otp; links = es; otp_l = l.otp_l; sr1_l = l.sr1_l }

abbrev pub with_locks : Bool → Bool → Lasting → Lasting
with_locks otp sr1 l = record { main = l.main; otp = l.otp; links = l.links; otp_l = otp; sr1_l = sr1 }

abbrev pub with_sr1 : ℕ → Passing → Passing
with_sr1 v s = record { sr1 = v; flags = s.flags; buffer = s.buffer; pending = s.pending }

abbrev pub with_flags : Flags → Passing → Passing
with_flags f s = record { sr1 = s.sr1; flags = f; buffer = s.buffer; pending = s.pending }

abbrev pub with_buffer : List ℕ → Passing → Passing
with_buffer xs s = record { sr1 = s.sr1; flags = s.flags; buffer = xs; pending = s.pending }

abbrev pub with_pending : Option Pending → Passing → Passing
with_pending q s = record { sr1 = s.sr1; flags = s.flags; buffer = s.buffer; pending = q }
