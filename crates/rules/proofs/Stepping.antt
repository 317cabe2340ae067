-- A step leads on: only the last one of an operation acts, under what was tested when it was taken.
use Rattle.std.proofs.Common.{◌≡◌, ℕ, ◌+◌, ◌-◌, ◌<◌, true, false, cond, ◌&&◌, ◌||◌, eqb, ltb, length, get_or, Some, None, Option, sym, refl, ap, ◌∙◌, subst, ⊎_elim, arith, length-append}
use Rattle.std.proofs.lemmas.Bool.{both_ways, cases_Bool, or_left, cond-true, cond-false}
use Rattle.arrays.specs.Store.{Store, after_program, after_erase}
use Rattle.links.specs.declared.entry.Entry.TheVariants.{Unused}
use Rattle.links.specs.Links.{capacity, is_used, full, apart, reach, swapped, after_swap}
use Rattle.links.proofs.Reaching.{reach_one, reach_within}
use Rattle.links.proofs.Swapping.{allowed, swapped_apart, swapped_stays}
use Rattle.links.proofs.Turning.{reached_partner, swapped_other}
use Rattle.links.proofs.Inside.{inside, swapped_inside}
use Rattle.rules.specs.declared.operation.Place.{Place}
use Rattle.rules.specs.declared.operation.Place.TheVariants.{Main, Otp}
use Rattle.rules.specs.declared.operation.Operation.{Operation}
use Rattle.rules.specs.declared.locks.Locks.{Locks}
use Rattle.rules.specs.declared.operation.Operation.TheVariants.{Load, Swap, Program, Erase, Lock}
use Rattle.rules.specs.declared.operation.Pending.{Pending}
use Rattle.rules.specs.Chip.{Lasting, Passing, Chip, doing, reached, sealed, with_pending}
use Rattle.rules.specs.Operations.{finished}
use Rattle.rules.specs.Calls.{step_of}
use Rattle.rules.specs.Book.{Ledger, Book, Due, Wait, no_wait, awaiting, swap_of, erase_of, lock_of, named, settled, ticked}
use Rattle.rules.specs.Law.{Moment, one_step, stored_bit}
use Rattle.rules.proofs.Stores.{Alters, program_alters, erase_alters, program_bit, program_life, erase_life, erase_rises, erase_spends, erase_counts, erase_grows}
use Rattle.rules.proofs.Swaps.{swapped_table, named_table, room_table}
use Rattle.rules.proofs.Agree.{chip_of, moment, Swappable, Awaits, Kept, Agrees, Onward, rise_none, still}

abbrev book_of : Ledger → ℕ → Wait → Book
book_of g sr1 w = record { ledger = g; sr1 = sr1; waits = w }

pub reached_named : (main : Store) (l : Lasting) (g : Ledger) → Kept main l g → (x : ℕ) → reached l x ≡ named g.swaps x
reached_named main l g k x =
    ap (λ n. reach n l.links x) k.blocks
    ∙ ap (λ t. reach main.blocks t x) k.links
    ∙ named_table main.blocks capacity g.swaps x k.most (subst (λ t. inside main.blocks t ≡ true) k.links k.within)

-- x is sealed and y is not
apart_by_seal : (l : Lasting) (r x y : ℕ) → sealed l r x ≡ true → sealed l r y ≡ false → x ≡ y → ⊥
apart_by_seal l r x y s o e = both_ways (sealed l r y) o (subst (λ z. sealed l r z ≡ true) e s)

module _ (main : Store) (l : Lasting) (s : Passing) (g : Ledger) (h : ℕ) (k : Kept main l g) (same : s.sr1 ≡ h) (w : Wait) where
  abbrev c : Chip
  c = chip_of l s

  abbrev before : Moment
  before = moment l s (book_of g h w)

  -- the card after the last step of an operation, beside the ledger g'
  abbrev Acts : Operation → Ledger → Type 0
  Acts o g' = Onward main before one_step (record { chip = finished o c; book = book_of g' h no_wait })

  load_acts : (place : Place) → Acts (Load place) g
  load_acts place = still main l s _ _ _ one_step refl (record { kept = k; sr1 = same; awaits = refl }) (λ _ _. refl) (λ _. refl)

  -- what an unsealed address reaches is altered: no sealed address shows it
  alters_unseen : (x : ℕ) (u : Store) → Alters (reached l x) l.main u → sealed l s.sr1 x ≡ false → (y : ℕ) → sealed l s.sr1 y ≡ true → (q : ℕ)
      → u.page (reach u.blocks l.links y) q ≡ l.main.page (reached l y) q
  alters_unseen x u a o y t q =
      ap (λ n. u.page (reach n l.links y) q) a.blocks
      ∙ a.others (reached l y) q (λ e. apart_by_seal l s.sr1 y x t o (reach_one l.main.blocks l.links k.once y x e))

  program_acts : (x page : ℕ) → sealed l s.sr1 x ≡ false → Acts (Program (Main x page)) g
  program_acts x page o =
      let z : ℕ = reached l x in
      let a = program_alters l.main z page s.buffer in
      record {
        agrees = record {
          kept = record {
            blocks = a.blocks ∙ k.blocks;
            pages = a.pages ∙ k.pages;
            g_blocks = k.g_blocks;
            g_pages = k.g_pages;
            g_lives = k.g_lives;
            otp_l = k.otp_l;
            sr1_l = k.sr1_l;
            links = k.links;
            most = k.most;
            once = k.once;
            within = k.within;
            lives = λ d. k.lives d ∙ ap (λ n. n + g.erases d) (sym (program_life l.main z page s.buffer d));
          };
          sr1 = same;
          awaits = refl;
        };
        seal_kept = alters_unseen x (after_program l.main z page s.buffer) a o;
        power_kept = λ _ _. refl;
        lock_kept = λ _. refl;
        bit_rise = λ d q b j e f. absurd (rise_none (stored_bit (after_program l.main z page s.buffer) d q b j) (program_bit l.main z page s.buffer d q b j e) f);
        erases_grow = λ d. omega arith;
        otp_kept = λ d q b j e. e;
        otp_l_kept = λ e. e;
        sr1_l_kept = λ e. e;
        used_kept = λ j e. e;
      }

  otp_acts : (page : ℕ) → Acts (Program (Otp page)) g
  otp_acts page = record {
    agrees = record {
      kept = record { blocks = k.blocks; pages = k.pages; g_blocks = k.g_blocks; g_pages = k.g_pages; g_lives = k.g_lives; otp_l = k.otp_l; sr1_l = k.sr1_l; links = k.links; most = k.most; once = k.once; within = k.within; lives = k.lives };
      sr1 = same;
      awaits = refl;
    };
    seal_kept = λ y t q. refl;
    power_kept = λ _ _. refl;
    lock_kept = λ _. refl;
    bit_rise = λ d q b j e f. absurd (rise_none (stored_bit l.main d q b j) e f);
    erases_grow = λ d. omega arith;
    otp_kept = λ d q b j e. program_bit l.otp 0 page s.buffer d q b j e;
    otp_l_kept = λ e. e;
    sr1_l_kept = λ e. e;
    used_kept = λ j e. e;
  }

  swap_acts : (x y : ℕ) → Swappable l s.sr1 x y → Acts (Swap x y) (settled (swap_of x y) g)
  swap_acts x y r =
      let n : ℕ = l.main.blocks in
      let ok = allowed n x y l.links r.may in
      let does : after_swap n x y l.links ≡ swapped x y l.links = cond-true _ _ _ r.may in
      let room : length g.swaps < capacity = room_table capacity g.swaps (subst (λ t. full t ≡ false) k.links ok.room) in
      record {
        agrees = record {
          kept = record {
            blocks = k.blocks;
            pages = k.pages;
            g_blocks = k.g_blocks;
            g_pages = k.g_pages;
            g_lives = k.g_lives;
            otp_l = k.otp_l;
            sr1_l = k.sr1_l;
            links = does ∙ ap (swapped x y) k.links ∙ swapped_table x y capacity g.swaps room;
            most = simp length-append (omega arith);
            once = subst (λ t. apart t ≡ true) (sym does) (swapped_apart n x y l.links k.once ok);
            within = subst (λ t. inside main.blocks t ≡ true) (sym does) (subst (λ m. inside m (swapped x y l.links) ≡ true) k.blocks (swapped_inside n x y l.links ok (subst (λ m. inside m l.links ≡ true) (sym k.blocks) k.within)));
            lives = k.lives;
          };
          sr1 = same;
          awaits = refl;
        };
        seal_kept = λ z t q.
            let na = apart_by_seal l s.sr1 z x t r.a_open in
            let nb = apart_by_seal l s.sr1 z y t r.b_open in
            ap (λ es. l.main.page (reach n es z) q) does
            ∙ ap (λ d. l.main.page d q) (swapped_other n x y l.links z k.once ok na nb (reached_partner n l.links x z na (r.partner_open z t)));
        power_kept = λ _ _. refl;
        lock_kept = λ _. refl;
        bit_rise = λ d q b j e f. absurd (rise_none (stored_bit l.main d q b j) e f);
        erases_grow = λ d. omega arith;
        otp_kept = λ d q b j e. e;
        otp_l_kept = λ e. e;
        sr1_l_kept = λ e. e;
        used_kept = λ j e. subst (λ t. is_used (get_or t j Unused) ≡ true) (sym does) (swapped_stays x y l.links j e);
      }

  lock_acts : (bits : Locks) → Acts (Lock bits) (settled (lock_of bits.otp bits.sr1) g)
  lock_acts bits = record {
    agrees = record {
      kept = record { blocks = k.blocks; pages = k.pages; g_blocks = k.g_blocks; g_pages = k.g_pages; g_lives = k.g_lives; otp_l = ap (λ z. z || bits.otp) k.otp_l; sr1_l = ap (λ z. z || bits.sr1) k.sr1_l; links = k.links; most = k.most; once = k.once; within = k.within; lives = k.lives };
      sr1 = same;
      awaits = refl;
    };
    seal_kept = λ y t q. refl;
    power_kept = λ _ _. refl;
    lock_kept = λ _. refl;
    bit_rise = λ d q b j e f. absurd (rise_none (stored_bit l.main d q b j) e f);
    erases_grow = λ d. omega arith;
    otp_kept = λ d q b j e. e;
    otp_l_kept = λ e. or_left _ _ e;
    sr1_l_kept = λ e. or_left _ _ e;
    used_kept = λ j e. e;
  }

  erase_acts : (x : ℕ) → x < l.main.blocks → sealed l s.sr1 x ≡ false → Acts (Erase x) (settled (erase_of (reached l x)) g)
  erase_acts x below o =
      let z : ℕ = reached l x in
      let a = erase_alters l.main z in
      let in_range : z < l.main.blocks = reach_within l.main.blocks l.links x below in
      record {
        agrees = record {
          kept = record {
            blocks = a.blocks ∙ k.blocks;
            pages = a.pages ∙ k.pages;
            g_blocks = k.g_blocks;
            g_pages = k.g_pages;
            g_lives = k.g_lives;
            otp_l = k.otp_l;
            sr1_l = k.sr1_l;
            links = k.links;
            most = k.most;
            once = k.once;
            within = k.within;
            lives = λ d.
                subst (λ n. main.life d ≡ n + cond (eqb d z && ltb (g.erases d) (g.lives d)) (g.erases d + 1) (g.erases d)) (sym (erase_life l.main z d in_range))
                (subst (λ n. main.life d ≡ cond (ltb 0 (l.main.life z) && eqb d z) (l.main.life z - 1) (l.main.life d) + cond (eqb d z && ltb (g.erases d) n) (g.erases d + 1) (g.erases d)) (sym (k.g_lives d))
                (erase_spends d z (l.main.life d) (g.erases d) (main.life d) (l.main.life z) (k.lives d) (λ e. ap l.main.life (sym e))));
          };
          sr1 = same;
          awaits = refl;
        };
        seal_kept = alters_unseen x (after_erase l.main z) a o;
        power_kept = λ _ _. refl;
        lock_kept = λ _. refl;
        bit_rise = λ d q b j e f.
            subst (λ n. g.erases d < cond (eqb d z && ltb (g.erases d) n) (g.erases d + 1) (g.erases d)) (sym (k.g_lives d))
            (erase_counts d z (l.main.life d) (g.erases d) (main.life d) (l.main.life z) (k.lives d) (λ i. ap l.main.life (sym i)) (erase_rises l.main z d q b j e f));
        erases_grow = λ d. erase_grows (g.erases d) (eqb d z && ltb (g.erases d) (g.lives d));
        otp_kept = λ d q b j e. e;
        otp_l_kept = λ e. e;
        sr1_l_kept = λ e. e;
        used_kept = λ j e. e;
      }

  -- ---- a step at which q was pending

  abbrev Steps : Option Pending → Type 0
  Steps q = Onward main before one_step (record { chip = step_of q c; book = ticked (book_of g h w) })

  -- the card and the book that it comes to
  comes_to : (q : Option Pending) (d : Chip) (b : Book) → step_of q c ≡ d → ticked (book_of g h w) ≡ b → Onward main before one_step (record { chip = d; book = b }) → Steps q
  comes_to q d b e f on =
      subst (λ z. Onward main before one_step (record { chip = z; book = ticked (book_of g h w) })) (sym e)
      (subst (λ z. Onward main before one_step (record { chip = d; book = z })) (sym f) on)

  -- what the book does when nothing is awaited, and at its last step
  book_rests : w ≡ no_wait → ticked (book_of g h w) ≡ book_of g h no_wait
  book_rests e = ap (λ v. ticked (book_of g h v)) e

  book_settles : (due : Due) (left : ℕ) → ltb 1 left ≡ false → w ≡ awaiting due left → ticked (book_of g h w) ≡ book_of (settled due g) h no_wait
  book_settles due left t e = ap (λ v. ticked (book_of g h v)) e ∙ cond-false (ltb 1 left) _ _ t

  book_counts : (due : Due) (left : ℕ) → ltb 1 left ≡ true → w ≡ awaiting due left → ticked (book_of g h w) ≡ book_of g h (awaiting due (left - 1))
  book_counts due left t e = ap (λ v. ticked (book_of g h v)) e ∙ cond-true (ltb 1 left) _ _ t

  acts : (o : Operation) (left : ℕ) → ltb 1 left ≡ false → Awaits l s.sr1 g (doing o left) w → Steps (doing o left)
  acts o left t a = go o a
    where
      last : (o : Operation) (g' : Ledger) → ticked (book_of g h w) ≡ book_of g' h no_wait → Acts o g' → Steps (doing o left)
      last o g' e on = comes_to (doing o left) (finished o c) (book_of g' h no_wait) (cond-false (ltb 1 left) _ _ t) e on

      go : (o : Operation) → Awaits l s.sr1 g (doing o left) w → Steps (doing o left)
      go (Load place) e = last (Load place) g (book_rests e) (load_acts place)
      go (Swap x y) e = last (Swap x y) (settled (swap_of x y) g) (book_settles (swap_of x y) left t e.0) (swap_acts x y e.1)
      go (Program (Main x page)) e = last (Program (Main x page)) g (book_rests e.0) (program_acts x page e.1)
      go (Program (Otp page)) e = last (Program (Otp page)) g (book_rests e) (otp_acts page)
      go (Erase x) e =
          last (Erase x) (settled (erase_of (reached l x)) g)
          (book_settles (erase_of (reached l x)) left t (e.waits ∙ ap (λ z. awaiting (erase_of z) left) (sym (reached_named main l g k x))))
          (erase_acts x e.below e.open_erase)
      go (Lock bits) e = last (Lock bits) (settled (lock_of bits.otp bits.sr1) g) (book_settles (lock_of bits.otp bits.sr1) left t e) (lock_acts bits)

  -- a step that is not the last one
  lowered : (o : Operation) (left : ℕ) → ltb 1 left ≡ true → Awaits l s.sr1 g (doing o left) w → (v : Wait) × (ticked (book_of g h w) ≡ book_of g h v) × Awaits l s.sr1 g (doing o (left - 1)) v
  lowered (Load place) left t e = (no_wait, book_rests e, refl)
  lowered (Swap x y) left t e = (awaiting (swap_of x y) (left - 1), book_counts (swap_of x y) left t e.0, (refl, e.1))
  lowered (Program (Main x page)) left t e = (no_wait, book_rests e.0, (refl, e.1))
  lowered (Program (Otp page)) left t e = (no_wait, book_rests e, refl)
  lowered (Erase x) left t e =
      (awaiting (erase_of (named g.swaps x)) (left - 1), book_counts (erase_of (named g.swaps x)) left t e.waits, record { waits = refl; below = e.below; open_erase = e.open_erase })
  lowered (Lock bits) left t e = (awaiting (lock_of bits.otp bits.sr1) (left - 1), book_counts (lock_of bits.otp bits.sr1) left t e, refl)

  counts : (o : Operation) (left : ℕ) → ltb 1 left ≡ true → Awaits l s.sr1 g (doing o left) w → Steps (doing o left)
  counts o left t e =
      let (v, f, a) = lowered o left t e in
      comes_to (doing o left) (chip_of l (with_pending (doing o (left - 1)) s)) (book_of g h v) (cond-true (ltb 1 left) _ _ t) f
      (still main l s _ _ _ one_step refl (record { kept = k; sr1 = same; awaits = a }) (λ _ _. refl) (λ _. refl))

  pub steps_on : Agrees main before → (q : Option Pending) → Awaits l s.sr1 g q w → Steps q
  steps_on a None e =
      let f : ticked (book_of g h w) ≡ book_of g h w = ap (λ v. ticked (book_of g h v)) e ∙ ap (book_of g h) (sym e) in
      comes_to None c (book_of g h w) refl f (still main l s s _ _ one_step refl a (λ _ _. refl) (λ _. refl))
  steps_on a (Some p) e = ⊎_elim (λ t. counts p.operation p.left t e) (λ t. acts p.operation p.left t e) (cases_Bool (ltb 1 p.left))
