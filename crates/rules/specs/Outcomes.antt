-- What becomes of a transaction: the number of every outcome, and the place of every refusal.
use Rattle.std.specs.Prelude.{ℕ, List, Ok, Err, codes, Result}
use Rattle.links.specs.declared.swap.SwapError.{SwapError}
use Rattle.links.specs.declared.swap.SwapError.TheVariants as swap
use Rattle.frames.specs.declared.refusal.FrameRefusal.{FrameRefusal}
use Rattle.frames.specs.declared.refusal.FrameRefusal.TheVariants as frame
use Rattle.rules.specs.declared.refusal.Refusal.{Refusal}
use Rattle.rules.specs.declared.refusal.Refusal.TheVariants.{Unfit, UnlistedCode, WrongCount, Busy, PinProtected, UnknownRegister, RegisterProtected, LockForbidden, LatchClear, RowOutside, RowProtected, SwapOutside, SwapLinked, TableFull, SwapSealed}
use Rattle.rules.specs.declared.refusal.RefusalPlace.{RefusalPlace}
use Rattle.rules.specs.declared.refusal.RefusalPlace.TheVariants.{Card, Frame, Counter, Pin, Register, Latch, Address, Links}

abbrev pub refusal_number : Refusal → ℕ
refusal_number Unfit = 1
refusal_number UnlistedCode = 2
refusal_number WrongCount = 3
refusal_number Busy = 4
refusal_number PinProtected = 5
refusal_number UnknownRegister = 6
refusal_number RegisterProtected = 7
refusal_number LockForbidden = 8
refusal_number LatchClear = 9
refusal_number RowOutside = 10
refusal_number RowProtected = 11
refusal_number SwapOutside = 12
refusal_number SwapLinked = 13
refusal_number TableFull = 14
refusal_number SwapSealed = 15

-- taken, or refused
abbrev pub Outcome : Type 0
Outcome = Result (Unit {0}) Refusal

-- 0 is taken, whatever it gives
abbrev pub outcome_number : {A : Type 0} → Result A Refusal → ℕ
outcome_number (Ok given) = 0
outcome_number (Err refusal) = refusal_number refusal

-- of a swap that may not be done
abbrev pub of_swap : SwapError → Refusal
of_swap swap.Outside = SwapOutside
of_swap swap.Linked = SwapLinked
of_swap swap.Full = TableFull

-- of sent bytes that are no frame
abbrev pub of_frame : FrameRefusal → Refusal
of_frame frame.UnlistedCode = UnlistedCode
of_frame frame.WrongCount = WrongCount

abbrev pub refusal_place : Refusal → RefusalPlace
refusal_place Unfit = Card
refusal_place UnlistedCode = Frame
refusal_place WrongCount = Frame
refusal_place Busy = Counter
refusal_place PinProtected = Pin
refusal_place UnknownRegister = Register
refusal_place RegisterProtected = Register
refusal_place LockForbidden = Register
refusal_place LatchClear = Latch
refusal_place RowOutside = Address
refusal_place RowProtected = Address
refusal_place SwapOutside = Links
refusal_place SwapLinked = Links
refusal_place TableFull = Links
refusal_place SwapSealed = Links

-- the word that a report has for a place
abbrev pub part_word : RefusalPlace → List ℕ
part_word Card = codes "card"
part_word Frame = codes "frame"
part_word Counter = codes "counter"
part_word Pin = codes "pin"
part_word Register = codes "register"
part_word Latch = codes "latch"
part_word Address = codes "address"
part_word Links = codes "links"
