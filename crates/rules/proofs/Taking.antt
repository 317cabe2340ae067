-- A transaction leads on: it leaves what lasts, and starts only what no refusal shut out.
use Rattle.std.proofs.Common.{◌≡◌, ℕ, zero, suc, ◌<◌, Bool, true, false, cond, not, ◌&&◌, ◌||◌, eqb, ◌⊎◌, List, [], ◌∷◌, Some, None, Ok, Err, Option, sym, refl, ap, ◌∙◌, subst, inl, inr, mod-lt, div-lt_iff_lt-mul, mul-pos, arith, pow_pos}
use Rattle.std.proofs.lemmas.Bool.{both_ways, or_parts, or_from, and_parts, not-false, not-true, not_from_false, eqb-false}
use Rattle.arrays.specs.Store.{Store, Shape, Power, most_blocks, most_pages}
use Rattle.links.specs.Links.{partner, full, outside, taken as in_links}
use Rattle.frames.specs.declared.instruction.RowOperation.TheVariants as row
use Rattle.frames.specs.Frames.{Told, nothing, plain, read_register, write_register, swap, at_row, load_buffer, read_buffer}
use Rattle.rules.specs.declared.flags.Flags.{Flags}
use Rattle.rules.specs.declared.operation.Place.TheVariants.{Main, Otp}
use Rattle.rules.specs.declared.operation.Operation.TheVariants.{Program, Erase}
use Rattle.rules.specs.declared.operation.Pending.{Pending}
use Rattle.rules.specs.Outcomes.{Outcome}
use Rattle.rules.specs.Registers.{power_lock, is_sr1, is_sr2, new_otp_l, new_sr1_l, with_sr2}
use Rattle.rules.specs.Rows.{row_address}
use Rattle.rules.specs.Chip.{Lasting, Passing, Chip, doing, busy, fit, sealed, with_sr1, with_flags, with_buffer, with_pending}
use Rattle.rules.specs.Refusals.{Rung, ◌when◌, first, refusals, sr1_shut, sealed_row, partner_sealed, is_fixed_row}
use Rattle.rules.specs.Effects.{effect, lock_begun, sr2_written}
use Rattle.rules.specs.Calls.{chip_after}
use Rattle.rules.specs.Book.{Ledger, Book, Wait, no_wait, awaiting, erase_of, named, with_wait, lock_wait, noted_taken, noted_by}
use Rattle.rules.specs.Law.{Call}
use Rattle.rules.proofs.Agree.{chip_of, moment, Swappable, Awaits, Agrees, Onward, still}

-- ---- a transaction that is taken meets no refusal

-- the condition of refusal k, counted from 1
abbrev condition : ℕ → List Rung → Bool
condition k [] = false
condition zero ((r when b) ∷ rs) = false
condition (suc zero) ((r when b) ∷ rs) = b
condition (suc (suc k)) ((r when b) ∷ rs) = condition (suc k) rs

abbrev Clear : List Rung → Type 0
Clear rs = (k : ℕ) → condition k rs ≡ false

abbrev is_taken : Outcome → Bool
is_taken (Ok u) = true
is_taken (Err r) = false

clear : (rs : List Rung) → first rs ≡ Ok tt → Clear rs
clear [] h k = refl
clear ((r when true) ∷ rs) h k = absurd (both_ways false refl (ap is_taken h))
clear ((r when false) ∷ rs) h zero = refl
clear ((r when false) ∷ rs) h (suc zero) = refl
clear ((r when false) ∷ rs) h (suc (suc k)) = clear rs h (suc k)

-- ---- an idle card

idle_none : (l : Lasting) (r : ℕ) (g : Ledger) (q : Option Pending) (w : Wait) → (busy q && true) ≡ false → Awaits l r g q w → w ≡ no_wait
idle_none l r g None w h a = a
idle_none l r g (Some p) w h a = absurd (both_ways true h refl)

idle_any : (l : Lasting) (r t : ℕ) (g : Ledger) (q : Option Pending) (w : Wait) → (busy q && true) ≡ false → Awaits l r g q w → Awaits l t g q w
idle_any l r t g None w h a = a
idle_any l r t g (Some p) w h a = absurd (both_ways true h refl)

-- ---- a row's block address is below N, on a fit card

pages_pos : (s : Store) → Shape s → (s.blocks ≡ 0 → ⊥) → 0 < s.pages
pages_pos s shape n = go shape.sizes
  where
    go : ((s.blocks ≡ 0) × (s.pages ≡ 0)) ⊎ (Power most_blocks s.blocks × Power most_pages s.pages) → 0 < s.pages
    go (inl e) = absurd (n e.0)
    go (inr f) = subst (λ p. 0 < p) (sym f.1.1) (pow_pos f.1.0)

address_below : (n p row : ℕ) → 0 < n → 0 < p → row_address n p row < n
address_below n p row hn hp = (div-lt_iff_lt-mul hp).1 (mod-lt row (mul-pos hn hp))

module _ (main : Store) (shape : Shape main) (l : Lasting) (s : Passing) (b : Book) (a : Agrees main (moment l s b)) (low : Bool) (k : Call) where
  abbrev c : Chip
  c = chip_of l s

  abbrev Leads : Passing → Book → Type 0
  Leads s' b' = Onward main (moment l s b) k (moment l s' b')

  nothing_new : Leads s b
  nothing_new = still main l s s b b k refl a (λ _ _. refl) (λ _. refl)

  flags_on : (f : Flags) → Leads (with_flags f s) b
  flags_on f = still main l s _ b b k refl (record { kept = a.kept; sr1 = a.sr1; awaits = a.awaits }) (λ _ _. refl) (λ _. refl)

  buffer_on : (xs : List ℕ) → Leads (with_buffer xs s) b
  buffer_on xs = still main l s _ b b k refl (record { kept = a.kept; sr1 = a.sr1; awaits = a.awaits }) (λ _ _. refl) (λ _. refl)

  -- a new operation, and what the book then awaits
  starts : (f : Flags) (q : Option Pending) (w : Wait) → Awaits l s.sr1 b.ledger q w → Leads (with_pending q (with_flags f s)) (with_wait b w)
  starts f q w h = still main l s _ b _ k refl (record { kept = a.kept; sr1 = a.sr1; awaits = h }) (λ _ _. refl) (λ _. refl)

  -- an operation that the book does not await
  starts_alone : (f : Flags) (q : Option Pending) → (busy s.pending && true) ≡ false → ((w : Wait) → w ≡ no_wait → Awaits l s.sr1 b.ledger q w) → Leads (with_pending q (with_flags f s)) b
  starts_alone f q h m = starts f q b.waits (m b.waits (idle_none l s.sr1 b.ledger s.pending b.waits h a.awaits))

  -- ---- register writes

  sr1_on : (v : ℕ) → (busy s.pending && true) ≡ false → sr1_shut c low ≡ false → Leads (with_sr1 v s) (record { ledger = b.ledger; sr1 = v; waits = b.waits })
  sr1_on v h t =
      let parts = or_parts l.sr1_l _ t in
      let power = (or_parts (power_lock s.sr1) _ parts.1).0 in
      still main l s _ b _ k refl
      (record { kept = a.kept; sr1 = refl; awaits = idle_any l s.sr1 v b.ledger s.pending b.waits h a.awaits })
      (λ _ p. absurd (both_ways (power_lock s.sr1) power p)) (λ p. absurd (both_ways l.sr1_l parts.0 p))

  lock_awaits : (o t : Bool) → Awaits l s.sr1 b.ledger (lock_begun (record { otp = o; sr1 = t }) s.pending) (lock_wait o t b.waits)
  lock_awaits true t = refl
  lock_awaits false true = refl
  lock_awaits false false = a.awaits

  sr2_on : (v : ℕ) → Leads (sr2_written c v) (with_wait b (lock_wait (new_otp_l b.ledger.otp_l v) (new_sr1_l b.ledger.sr1_l v) b.waits))
  sr2_on v =
      let q = lock_begun (record { otp = new_otp_l l.otp_l v; sr1 = new_sr1_l l.sr1_l v }) s.pending in
      starts (with_sr2 v s.flags) q _
      (subst (λ z. Awaits l s.sr1 b.ledger q (lock_wait (new_otp_l z v) (new_sr1_l b.ledger.sr1_l v) b.waits)) a.kept.otp_l
      (subst (λ z. Awaits l s.sr1 b.ledger q (lock_wait (new_otp_l l.otp_l v) (new_sr1_l z v) b.waits)) a.kept.sr1_l
      (lock_awaits (new_otp_l l.otp_l v) (new_sr1_l l.sr1_l v))))

  write_on : (x y : Bool) (v : ℕ) → (busy s.pending && true) ≡ false → (x && sr1_shut c low) ≡ false
      → Leads (cond x (with_sr1 v s) (cond y (sr2_written c v) s))
      (cond x (record { ledger = b.ledger; sr1 = v; waits = b.waits }) (cond y (with_wait b (lock_wait (new_otp_l b.ledger.otp_l v) (new_sr1_l b.ledger.sr1_l v) b.waits)) b))
  write_on true y v h t = sr1_on v h t
  write_on false true v h t = sr2_on v
  write_on false false v h t = nothing_new

  -- ---- rows

  program_awaits : (e fixed : Bool) (x page row : ℕ) (w : Wait) → cond e fixed (sealed l s.sr1 x) ≡ false → w ≡ no_wait
      → Awaits l s.sr1 b.ledger (doing (Program (cond e (Otp row) (Main x page))) 4) w
  program_awaits true fixed x page row w o n = n
  program_awaits false fixed x page row w o n = (n, o)

  row_below : fit l ≡ true → (row : ℕ) → row_address l.main.blocks l.main.pages row < l.main.blocks
  row_below f row =
      let e = eqb-false l.main.blocks 0 (not-true (eqb l.main.blocks 0) (and_parts (not (eqb l.main.blocks 0)) _ f).0) in
      let n : 0 < l.main.blocks = omega (arith, e) in
      let p : 0 < l.main.pages = subst (λ z. 0 < z) (sym a.kept.pages) (pages_pos main shape (λ z. let q = a.kept.blocks in omega arith)) in
      address_below l.main.blocks l.main.pages row n p

  erase_awaits : (row : ℕ) → fit l ≡ true → sealed_row c row ≡ false
      → Awaits l s.sr1 b.ledger (doing (Erase (row_address l.main.blocks l.main.pages row)) 16) (awaiting (erase_of (named b.ledger.swaps (row_address b.ledger.blocks b.ledger.pages row))) 16)
  erase_awaits row f o = record {
    waits =
        ap (λ z. awaiting (erase_of (named b.ledger.swaps (row_address z b.ledger.pages row))) 16) (a.kept.g_blocks ∙ sym a.kept.blocks)
        ∙ ap (λ z. awaiting (erase_of (named b.ledger.swaps (row_address l.main.blocks z row))) 16) (a.kept.g_pages ∙ sym a.kept.pages);
    below = row_below f row;
    open_erase = o;
  }

  -- ---- swaps

  swappable : (x y : ℕ) → outside l.main.blocks x y ≡ false → in_links x y l.links ≡ false → full l.links ≡ false
      → (sealed l s.sr1 x || (sealed l s.sr1 y || partner_sealed c (partner l.main.blocks l.links x))) ≡ false → Swappable l s.sr1 x y
  swappable x y out linked room seal =
      let one = or_parts (sealed l s.sr1 x) _ seal in
      let two = or_parts (sealed l s.sr1 y) _ one.1 in
      record {
        may = not_from_false _ (or_from (outside l.main.blocks x y) _ out (or_from (in_links x y l.links) (full l.links) linked room));
        a_open = one.0;
        b_open = two.0;
        partner_open = λ z t e. both_ways (sealed l s.sr1 z) (subst (λ o. partner_sealed c o ≡ false) e two.1) t;
      }

  -- ---- every instruction

  takes : (i : Told) (known right pin : Bool) → Clear (refusals c low i known right pin) → Leads (effect c i) (noted_taken b i)
  takes nothing _ _ _ r = nothing_new
  takes (plain x) _ _ _ r = flags_on _
  takes (read_register x) _ _ _ r = nothing_new
  takes (write_register x v) _ _ _ r = write_on (is_sr1 x) (is_sr2 x) v (r 4) (r 7)
  takes (swap x y) _ _ _ r = starts s.flags _ _ (refl, swappable x y (r 12) (r 13) (r 14) (r 15))
  takes (at_row row.Program n) _ _ _ r = starts_alone _ _ (r 4) (λ w e. program_awaits s.flags.otp_e (is_fixed_row n || l.otp_l) _ _ n w (r 11) e)
  takes (at_row row.Erase n) _ _ _ r = starts _ _ _ (erase_awaits n (not-false (fit l) (r 1)) (or_parts s.flags.otp_e _ (r 11)).1)
  takes (at_row row.Fetch n) _ _ _ r = starts_alone s.flags _ (r 4) (λ w e. e)
  takes (load_buffer refill x xs) _ _ _ r = buffer_on _
  takes (read_buffer x) _ _ _ r = nothing_new

  by_outcomes : (i : Told) (known right pin : Bool) (o : Outcome) → (o ≡ Ok tt → Clear (refusals c low i known right pin)) → Onward main (moment l s b) k (record { chip = chip_after c i o; book = noted_by b i o })
  by_outcomes i known right pin (Ok tt) p = takes i known right pin (p refl)
  by_outcomes i known right pin (Err r) p = flags_on _

  pub answers : (i : Told) (known right pin : Bool) → let o = first (refusals c low i known right pin) in Onward main (moment l s b) k (record { chip = chip_after c i o; book = noted_by b i o })
  answers i known right pin = by_outcomes i known right pin (first (refusals c low i known right pin)) (clear (refusals c low i known right pin))
