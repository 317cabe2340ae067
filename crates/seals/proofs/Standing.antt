-- A seal stands: over a run without a power cycle SR-1 is locked, so that the book finds the addresses sealed before each call.
use Rattle.std.proofs.Common.{◌≡◌, ℕ, ◌<◌, true, ltb, Ok, Err, sym, refl, ap, ◌∙◌}
use Rattle.std.proofs.lemmas.Bool.{cond_both}
use Rattle.arrays.specs.Store.{Store, Shape}
use Rattle.frames.specs.declared.instruction.RowOperation.{RowOperation}
use Rattle.frames.specs.declared.instruction.RowOperation.TheVariants.{Program, Erase, Fetch}
use Rattle.frames.specs.Frames.{Told, nothing, plain, read_register, write_register, swap, at_row, load_buffer, read_buffer, told}
use Rattle.rules.specs.Outcomes.{Outcome}
use Rattle.rules.specs.Registers.{is_sr1, is_sr2, power_lock}
use Rattle.rules.specs.Seal.{covers}
use Rattle.rules.specs.Chip.{Chip}
use Rattle.rules.specs.Calls.{chip_after}
use Rattle.rules.specs.Book.{Book, Ledger, Wait, no_wait, awaiting, Due, swap_of, erase_of, lock_of, noted_row, noted_by, noted_write, settled, ticked_by}
use Rattle.rules.specs.Law.{Call, transaction, one_step, power_cycled, Moment, next, new, Run, rest, then, Throughout, Sealed, NoPowerCycle, page_at, Calibrated, SealedCalibration}
use Rattle.seals.specs.SealedVisit.{seal_byte, sr1_written, sealing, seal_call, SealsStand}
use Rattle.seals.proofs.SealByte.{seal_locks, seal_covers}

-- ---- the book keeps N

abbrev Keeps : Book → Book → Type 0
Keeps b after = after.ledger.blocks ≡ b.ledger.blocks

write_keeps : (b : Book) (a v : ℕ) → Keeps b (noted_write b a v)
write_keeps b a v = cond_both (is_sr1 a) _ _ (Keeps b) (λ _. refl) (λ _. cond_both (is_sr2 a) _ _ (Keeps b) (λ _. refl) (λ _. refl))

row_keeps : (b : Book) (x : RowOperation) (row : ℕ) → Keeps b (noted_row b x row)
row_keeps b Program row = refl
row_keeps b Erase row = refl
row_keeps b Fetch row = refl

noted_keeps : (b : Book) (i : Told) (o : Outcome) → Keeps b (noted_by b i o)
noted_keeps b i (Err refusal) = refl
noted_keeps b nothing (Ok done) = refl
noted_keeps b (plain x) (Ok done) = refl
noted_keeps b (read_register a) (Ok done) = refl
noted_keeps b (write_register a v) (Ok done) = write_keeps b a v
noted_keeps b (swap x y) (Ok done) = refl
noted_keeps b (at_row x row) (Ok done) = row_keeps b x row
noted_keeps b (load_buffer refill column xs) (Ok done) = refl
noted_keeps b (read_buffer column) (Ok done) = refl

settled_keeps : (due : Due) (g : Ledger) → (settled due g).blocks ≡ g.blocks
settled_keeps (swap_of x y) g = refl
settled_keeps (erase_of k) g = refl
settled_keeps (lock_of otp sr1) g = refl

ticked_keeps : (w : Wait) (b : Book) → Keeps b (ticked_by w b)
ticked_keeps no_wait b = refl
ticked_keeps (awaiting due left) b = cond_both (ltb 1 left) _ _ (Keeps b) (λ _. refl) (λ _. settled_keeps due b.ledger)

next_keeps : (m : Moment) (k : Call) → Keeps m.book (next m k).book
next_keeps m (transaction sent low n) = noted_keeps m.book (told sent) _
next_keeps m one_step = ticked_keeps m.book.waits m.book
next_keeps m power_cycled = refl

along_keeps : {i j : Moment} → Run i j → Keeps i.book j.book
along_keeps rest = refl
along_keeps (then {j = j} r k) = next_keeps j k ∙ along_keeps r

-- ---- one run after another

joined : {i j k : Moment} → Run i j → Run j k → Run i k
joined r rest = r
joined r (then t k) = then (joined r t) k

-- ---- a card under power lock, from the moment s on

module _ (law : SealedCalibration) (main otp : Store) (main_shape : Shape main) (otp_shape : Shape otp) (s : Moment) (t : Run (new main otp) s) (v : ℕ) (set : s.chip.passing.sr1 ≡ v) (lock : power_lock v ≡ true) where
  over : (j : Moment) (r : Run s j) → Calibrated main s j r
  over j r = law main otp main_shape otp_shape s j t r

  at : (j : Moment) → Run (new main otp) j → Calibrated main j j rest
  at j r = law main otp main_shape otp_shape j j r rest

  stays : (j : Moment) (r : Run s j) → Throughout NoPowerCycle r → j.chip.passing.sr1 ≡ v
  stays j r q =
      let here : power_lock s.book.sr1 ≡ true = ap power_lock (sym (at s t).same_sr1 ∙ set) ∙ lock in
      (over j r).power_locked here q ∙ set

  sealed : (x : ℕ) → covers main.blocks v x ≡ true → {j : Moment} (r : Run s j) → Throughout NoPowerCycle r → Throughout (Sealed x) r
  sealed x h rest q = tt
  sealed x h (then {j = j} r k) q =
      let sr1 : j.book.sr1 ≡ v = sym (at j (joined t r)).same_sr1 ∙ stays j r q.0 in
      let n : j.book.ledger.blocks ≡ main.blocks = along_keeps (joined t r) in
      (sealed x h r q.0, ap (λ b. covers b j.book.sr1 x) n ∙ (ap (λ w. covers main.blocks w x) sr1 ∙ h))

  pages : (x p : ℕ) → x < main.blocks → covers main.blocks v x ≡ true → (j : Moment) (r : Run s j) → Throughout NoPowerCycle r → page_at j x p ≡ page_at s x p
  pages x p less h j r q = (over j r).sealed_stays x p less (sealed x h r q)

-- ---- a seal

-- SR-1 is what a taken write of SR-1 writes
written : (c : Chip) (o : Outcome) (v : ℕ) → o ≡ Ok tt → (chip_after c (write_register 160 v) o).passing.sr1 ≡ v
written c o v e = ap (λ z. (chip_after c (write_register 160 v) z).passing.sr1) e

pub standing : SealedCalibration → SealsStand
unfolding sr1_written
standing law c low byte main otp main_shape otp_shape i t same taken j r q =
    let s : Moment = next i (seal_call low byte) in
    let run : Run (new main otp) s = then t (seal_call low byte) in
    let set : s.chip.passing.sr1 ≡ seal_byte byte = written i.chip (sealing i.chip low byte).outcome (seal_byte byte) (ap (λ d. (sealing d low byte).outcome) same ∙ taken) in
    let lock = seal_locks byte in
    let sr1 : j.chip.passing.sr1 ≡ seal_byte byte = stays law main otp main_shape otp_shape s run (seal_byte byte) set lock j r q in
    record {
      sr1 = sr1;
      locked = ap power_lock sr1 ∙ lock;
      pages = λ x p less h. pages law main otp main_shape otp_shape s run (seal_byte byte) set lock x p less (seal_covers main.blocks byte x ∙ h) j r q;
    }
