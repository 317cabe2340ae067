-- The law over runs: each call leads on, so each stretch does.
use Rattle.std.proofs.Common.{◌≡◌, ℕ, ◌%◌, ◌<◌, ◌≤◌, true, cond, ◌⊎◌, get_or, sym, refl, ap, ◌∙◌, inl, inr, ⊎_elim, lt_of_lt_of_le, lt_of_le_of_lt, arith}
use Rattle.std.proofs.lemmas.Bool.{cond-true, cases_eq}
use Rattle.arrays.specs.Store.{Store, Shape}
use Rattle.links.specs.declared.entry.Entry.TheVariants.{Unused}
use Rattle.links.specs.Links.{capacity, is_used, used}
use Rattle.links.proofs.Reaching.{reach_one}
use Rattle.frames.specs.Frames.{told, listed, count_right}
use Rattle.rules.specs.Registers.{power_lock, power_up_sr1}
use Rattle.rules.specs.Seal.{covers}
use Rattle.rules.specs.Chip.{sealed}
use Rattle.rules.specs.Refusals.{pin_code}
use Rattle.rules.specs.Law.{Call, transaction, one_step, power_cycled, Moment, next, new, Run, rest, then, Throughout, Sealed, NoPowerCycle, page_at, stored_bit, SealedCalibration}
use Rattle.rules.proofs.Swaps.{used_table}
use Rattle.rules.proofs.Agree.{Agrees, Onward, still}
use Rattle.rules.proofs.Taking.{answers}
use Rattle.rules.proofs.Stepping.{reached_named, steps_on}

bit_split : (n : ℕ) → (n % 2 ≡ 0) ⊎ (n % 2 ≡ 1)
bit_split n = ⊎_elim (λ e. inl e) (λ d. inr (omega arith)) (cases_eq (n % 2) 0)

module _ (main : Store) (shape : Shape main) where
  -- ---- one call

  cycles : (i : Moment) → Agrees main i → Onward main i power_cycled (next i power_cycled)
  cycles i a =
      let l = i.chip.lasting in
      let s = i.chip.passing in
      let b = i.book in
      still main l s _ b _ power_cycled refl
      (record {
        kept = a.kept;
        sr1 = ap (λ z. cond z s.sr1 power_up_sr1) a.kept.sr1_l ∙ ap (λ r. cond b.ledger.sr1_l r power_up_sr1) a.sr1;
        awaits = refl;
      })
      (λ u _. absurd u) (λ t. cond-true l.sr1_l s.sr1 power_up_sr1 t)

  onward : (i : Moment) → Agrees main i → (k : Call) → Onward main i k (next i k)
  onward i a (transaction sent low n) = answers main shape i.chip.lasting i.chip.passing i.book a low (transaction sent low n) (told sent) (listed sent) (count_right sent) (pin_code low sent)
  onward i a one_step =
      let b = i.book in
      steps_on main i.chip.lasting i.chip.passing b.ledger b.sr1 a.kept a.sr1 b.waits a i.chip.passing.pending a.awaits
  onward i a power_cycled = cycles i a

  -- ---- a stretch

  along : {i j : Moment} → Agrees main i → Run i j → Agrees main j
  along a rest = a
  along a (then {j = j} t k) = (onward j (along a t) k).agrees

  seal_along : (x p : ℕ) {i j : Moment} → Agrees main i → (r : Run i j) → Throughout (Sealed x) r → page_at j x p ≡ page_at i x p
  seal_along x p a rest q = refl
  seal_along x p a (then {j = j} t k) q =
      let b = along a t in
      let n : j.chip.lasting.main.blocks ≡ j.book.ledger.blocks = b.kept.blocks ∙ sym b.kept.g_blocks in
      let s : sealed j.chip.lasting j.chip.passing.sr1 x ≡ true =
      ap (λ m. covers m j.chip.passing.sr1 x) n ∙ ap (λ r. covers j.book.ledger.blocks r x) b.sr1 ∙ q.1 in
      (onward j b k).seal_kept x s p ∙ seal_along x p a t q.0

  power_along : {i j : Moment} → Agrees main i → power_lock i.chip.passing.sr1 ≡ true → (r : Run i j) → Throughout NoPowerCycle r → j.chip.passing.sr1 ≡ i.chip.passing.sr1
  power_along a p rest q = refl
  power_along a p (then {j = j} t k) q =
      let e = power_along a p t q.0 in
      (onward j (along a t) k).power_kept q.1 (ap power_lock e ∙ p) ∙ e

  sr1_l_along : {i j : Moment} → Agrees main i → Run i j → i.chip.lasting.sr1_l ≡ true → j.chip.lasting.sr1_l ≡ true
  sr1_l_along a rest p = p
  sr1_l_along a (then {j = j} t k) p = (onward j (along a t) k).sr1_l_kept (sr1_l_along a t p)

  otp_l_along : {i j : Moment} → Agrees main i → Run i j → i.chip.lasting.otp_l ≡ true → j.chip.lasting.otp_l ≡ true
  otp_l_along a rest p = p
  otp_l_along a (then {j = j} t k) p = (onward j (along a t) k).otp_l_kept (otp_l_along a t p)

  lock_along : {i j : Moment} → Agrees main i → Run i j → i.chip.lasting.sr1_l ≡ true → j.chip.passing.sr1 ≡ i.chip.passing.sr1
  lock_along a rest p = refl
  lock_along a (then {j = j} t k) p = (onward j (along a t) k).lock_kept (sr1_l_along a t p) ∙ lock_along a t p

  erases_along : {i j : Moment} → Agrees main i → Run i j → (b : ℕ) → i.book.ledger.erases b ≤ j.book.ledger.erases b
  erases_along a rest b = omega arith
  erases_along a (then {j = j} t k) b = let h = erases_along a t b in let g = (onward j (along a t) k).erases_grow b in omega arith

  bit_along : {i j : Moment} → Agrees main i → Run i j → (b p c k : ℕ) → stored_bit i.chip.lasting.main b p c k ≡ 0 → stored_bit j.chip.lasting.main b p c k ≡ 1 → i.book.ledger.erases b < j.book.ledger.erases b
  bit_along a rest b p c k e f = omega arith
  bit_along a (then {j = j} t call) b p c k e f =
      let on = onward j (along a t) call in
      ⊎_elim
      (λ z. lt_of_le_of_lt (erases_along a t b) (on.bit_rise b p c k z f))
      (λ u. lt_of_lt_of_le (bit_along a t b p c k e u) (on.erases_grow b))
      (bit_split _)

  otp_along : {i j : Moment} → Agrees main i → Run i j → (b p c k : ℕ) → stored_bit i.chip.lasting.otp b p c k ≡ 0 → stored_bit j.chip.lasting.otp b p c k ≡ 0
  otp_along a rest b p c k e = e
  otp_along a (then {j = j} t call) b p c k e = (onward j (along a t) call).otp_kept b p c k (otp_along a t b p c k e)

  used_along : {i j : Moment} → Agrees main i → Run i j → (k : ℕ) → is_used (get_or i.chip.lasting.links k Unused) ≡ true → is_used (get_or j.chip.lasting.links k Unused) ≡ true
  used_along a rest k e = e
  used_along a (then {j = j} t call) k e = (onward j (along a t) call).used_kept k (used_along a t k e)

  -- ---- the start

  starts_so : (otp : Store) → Agrees main (new main otp)
  starts_so otp = record {
    kept = record { blocks = refl; pages = refl; g_blocks = refl; g_pages = refl; g_lives = λ b. refl; otp_l = refl; sr1_l = refl; links = refl; most = omega arith; once = refl; within = refl; lives = λ b. omega arith };
    sr1 = refl;
    awaits = refl;
  }

pub calibrated : SealedCalibration
calibrated main otp shape _ i j t r =
    let a = along main shape (starts_so main shape otp) t in
    let l = i.chip.lasting in
    let g = i.book.ledger in
    record {
      sealed_stays = λ x p _ q. seal_along main shape x p a r q;
      power_locked = λ p q. power_along main shape a (ap power_lock a.sr1 ∙ p) r q;
      sr1_locked = λ p. lock_along main shape a r (a.kept.sr1_l ∙ p);
      bit_rises = λ b p c k e f. bit_along main shape a r b p c k e f;
      otp_never = λ b p c k e. otp_along main shape a r b p c k e;
      otp_l_stays = λ e. otp_l_along main shape a r e;
      sr1_l_stays = λ e. sr1_l_along main shape a r e;
      entry_stays = λ k e. used_along main shape a r k e;
      life_spent = a.kept.lives;
      one_to_one = λ x y _ _ e. reach_one l.main.blocks l.links a.kept.once x y e;
      as_named = λ x _. reached_named main l g a.kept x;
      same_sr1 = a.sr1;
      same_otp_l = a.kept.otp_l;
      same_sr1_l = a.kept.sr1_l;
      entries = ap used a.kept.links ∙ used_table capacity g.swaps a.kept.most;
      entries_most = a.kept.most;
    }
