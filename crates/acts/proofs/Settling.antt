-- One step of those until the card is idle.
use Rattle.std.proofs.Common.{◌≡◌, ℕ, suc, ◌-◌, ◌<◌, max, ltb, List, Some, None, Option, sym, refl, ap, ◌∙◌, arith, lt-ltb}
use Rattle.std.proofs.lemmas.Bool.{cond-true}
use Rattle.rules.specs.declared.flags.Flags.{Flags}
use Rattle.rules.specs.declared.operation.Pending.{Pending}
use Rattle.rules.specs.Chip.{Lasting, Chip, doing}
use Rattle.rules.specs.Calls.{step, left_after}
use Rattle.acts.specs.Acts.{after_steps, awaited, settled}

module _ (l : Lasting) (sr1 : ℕ) (flags : Flags) (buffer : List ℕ) where
  abbrev card : Option Pending → Chip
  card p = record { lasting = l; passing = record { sr1 = sr1; flags = flags; buffer = buffer; pending = p } }

  last : (p : Option Pending) → left_after p ≡ 0 → (step (card p)).chip ≡ after_steps (awaited p) (card p)
  last None e = refl
  last (Some q) e =
      let one : 1 ≡ max 1 q.left = omega arith in
      ap (λ n. after_steps n (card (Some q))) one

  more : (p : Option Pending) → (left_after p ≡ 0 → ⊥) → after_steps (awaited (step (card p)).chip.passing.pending) (step (card p)).chip ≡ after_steps (awaited p) (card p)
  more None d = absurd (d refl)
  more (Some q) d =
      let two : 1 < q.left = omega arith in
      let to : (step (card (Some q))).chip ≡ card (doing q.operation (q.left - 1)) = cond-true (ltb 1 q.left) _ _ (lt-ltb 1 q.left two) in
      let count : suc (max 1 (q.left - 1)) ≡ max 1 q.left = omega arith in
      ap (λ c. after_steps (awaited c.passing.pending) c) to
      ∙ (sym (ap (λ c. after_steps (max 1 (q.left - 1)) c) to) ∙ ap (λ n. after_steps n (card (Some q))) count)

  falls : (p : Option Pending) → (left_after p ≡ 0 → ⊥) → awaited (step (card p)).chip.passing.pending < awaited p
  falls None d = absurd (d refl)
  falls (Some q) d =
      let two : 1 < q.left = omega arith in
      let to : awaited (step (card (Some q))).chip.passing.pending ≡ max 1 (q.left - 1) = ap (λ (c : Chip). awaited c.passing.pending) (cond-true (ltb 1 q.left) _ _ (lt-ltb 1 q.left two)) in
      omega arith

-- the last step ends where all steps end
pub last_step : (c : Chip) → (step c).left ≡ 0 → (step c).chip ≡ settled c
unfolding settled
last_step c e = last c.lasting c.passing.sr1 c.passing.flags c.passing.buffer c.passing.pending e

-- an earlier one leaves that, and one step less
pub earlier_step : (c : Chip) → ((step c).left ≡ 0 → ⊥) → settled (step c).chip ≡ settled c
unfolding settled
earlier_step c d = more c.lasting c.passing.sr1 c.passing.flags c.passing.buffer c.passing.pending d

pub fewer_steps : (c : Chip) → ((step c).left ≡ 0 → ⊥) → awaited (step c).chip.passing.pending < awaited c.passing.pending
fewer_steps c d = falls c.lasting c.passing.sr1 c.passing.flags c.passing.buffer c.passing.pending d
