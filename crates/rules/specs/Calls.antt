-- The calls of a card: transaction, step and power cycle; and a new card.
use Rattle.std.specs.Prelude.{ℕ, ◌-◌, min, Bool, false, cond, List, [], ◌++◌, length, take, replicate, Some, None, Ok, Err, Option, Result, nat_lt}
use Rattle.arrays.specs.Store.{Store}
use Rattle.links.specs.Links.{no_links}
use Rattle.frames.specs.Frames.{Told, told}
use Rattle.rules.specs.declared.operation.Place.TheVariants.{Main}
use Rattle.rules.specs.declared.operation.Pending.{Pending}
use Rattle.rules.specs.declared.refusal.Refusal.{Refusal}
use Rattle.rules.specs.Outcomes.{Outcome}
use Rattle.rules.specs.Registers.{power_up_sr1}
use Rattle.rules.specs.FlagChanges.{power_up_flags}
use Rattle.rules.specs.Chip.{Lasting, Chip, doing, fit, blank_buffer, with_pending}
use Rattle.rules.specs.Refusals.{outcome as decided}
use Rattle.rules.specs.Operations.{loaded, finished}
use Rattle.rules.specs.Effects.{effect, refusal_effect, drives}

-- ---- a transaction

-- the card, the outcome, the count of driven bytes and the area afterwards
pub record Reply : Type 0 where
  pub chip : Chip
  pub outcome : Outcome
  pub driven : ℕ
  pub area : List ℕ

-- nothing that lasts changes at once
abbrev pub chip_after : Chip → Told → Outcome → Chip
chip_after c i (Ok done) = record { lasting = c.lasting; passing = effect c i }
chip_after c i (Err refusal) = record { lasting = c.lasting; passing = refusal_effect refusal i c.passing }

abbrev pub drives_by : Chip → ℕ → Told → Outcome → List ℕ
drives_by c n i (Ok done) = drives c n i
drives_by c n i (Err refusal) = []

-- driven bytes stand first in the area of n, as many as it takes, and FFh fills the rest
abbrev pub area_of : ℕ → List ℕ → List ℕ
area_of n xs = take n xs ++ replicate (n - length xs) 255

abbrev pub reply : Chip → Told → Outcome → ℕ → Reply
reply c i o n = record { chip = chip_after c i o; outcome = o; driven = min n (length (drives_by c n i o)); area = area_of n (drives_by c n i o) }

-- the count of driven bytes, or why nothing is driven
abbrev pub driven_unless_refused : Outcome → ℕ → Result ℕ Refusal
driven_unless_refused (Ok done) driven = Ok driven
driven_unless_refused (Err refusal) driven = Err refusal

abbrev pub answer : Reply → Result ℕ Refusal
answer r = driven_unless_refused r.outcome r.driven

-- the outcome that an answer tells
abbrev pub uncounted : Result ℕ Refusal → Outcome
uncounted (Ok driven) = Ok tt
uncounted (Err refusal) = Err refusal

-- of the sent bytes, with /WP low or not, and an area of n bytes
abbrev pub transact : Chip → List ℕ → Bool → ℕ → Reply
transact c sent low n = reply c (told sent) (decided c low sent) n

-- ---- a step

pub record Stepped : Type 0 where
  pub chip : Chip
  pub left : ℕ

-- only the last step of an operation acts
abbrev pub step_of : Option Pending → Chip → Chip
step_of None c = c
step_of (Some p) c = cond (nat_lt 1 p.left) (record { lasting = c.lasting; passing = with_pending (doing p.operation (p.left - 1)) c.passing }) (finished p.operation c)

abbrev pub left_after : Option Pending → ℕ
left_after None = 0
left_after (Some p) = p.left - 1

abbrev pub step : Chip → Stepped
step c = record { chip = step_of c.passing.pending c; left = left_after c.passing.pending }

-- ---- a power cycle

-- what it makes of what lasts and of the SR-1 before it
abbrev pub powered : Lasting → ℕ → Chip
powered l sr1 = record {
  lasting = l;
  passing = record {
    sr1 = cond l.sr1_l sr1 power_up_sr1;
    flags = power_up_flags;
    buffer = cond (fit l) (loaded l (Main 0 0) blank_buffer) blank_buffer;
    pending = None;
  };
}

abbrev pub power_cycle : Chip → Chip
power_cycle c = powered c.lasting c.passing.sr1

-- ---- a new card: no links and no locks, after a power cycle

abbrev pub new_lasting : Store → Store → Lasting
new_lasting main otp = record { main = main; otp = otp; links = no_links; otp_l = false; sr1_l = false }

abbrev pub new_card : Store → Store → Chip
new_card main otp = powered (new_lasting main otp) power_up_sr1
