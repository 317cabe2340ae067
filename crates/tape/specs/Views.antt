-- What the code's own record says, and what a text keeps.
use Rattle.std.specs.Prelude.{ℕ, ◌≤◌, cond, List, [], ◌∷◌, ◌++◌, length, Some, None, Option, nat_lt}
use Rattle.tape.specs.declared.record.Transaction as own
use Rattle.tape.specs.declared.record.Record.{Record}
use Rattle.tape.specs.declared.record.Record.TheVariants.{Transaction, Step, Power}
use Rattle.tape.specs.Hex.{bytes_in}
use Rattle.tape.specs.Lines.{Request, transaction, step, power}

abbrev pub asked_of : own.Transaction → Request
asked_of t = transaction t.low t.area_length (bytes_in t.digits.now)

abbrev pub asked : Record → Request
asked (Transaction t) = asked_of t
asked Step = step
asked Power = power

-- an area of at most 64 bytes, and as many sent
abbrev pub FitsOf : own.Transaction → Type 0
FitsOf t = (t.area_length ≤ 64) × (length t.digits.now ≤ 128)

abbrev pub Fits : Record → Type 0
Fits (Transaction t) = FitsOf t
Fits Step = Unit {0}
Fits Power = Unit {0}

abbrev pub FitsIfAny : Option Record → Type 0
FitsIfAny (Some record') = Fits record'
FitsIfAny None = Unit {0}

-- a text of 137 bytes has no room for another
abbrev pub kept : List ℕ → ℕ → List ℕ
kept text byte = cond (nat_lt (length text) 137) (text ++ (byte ∷ [])) text
