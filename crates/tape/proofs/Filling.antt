-- A text that grows stays followed by zeros.
use Rattle.std.proofs.Common.{◌≡◌, ℕ, ◌+◌, ◌-◌, ◌<◌, ◌≤◌, List, length, drop, set, replicate, sym, ap, ◌∙◌, arith}
use Rattle.std.proofs.lemmas.List.{length-set, length-append, length-take, length-drop, drop-drop, drop-set-lt, drop-replicate}
use Rattle.std.proofs.lemmas.Slice.{drop-put_mid}
use borrow.Rule.Slice.PartMut.{put_mid}
use Rattle.tape.specs.Filled.{IsFilled}

less : (filled k n : ℕ) → n ≡ filled + k → (137 - filled) - k ≡ 137 - n
less filled k n e = omega arith

fewer_zeros : (bytes : List ℕ) (filled k n : ℕ) → IsFilled bytes filled → n ≡ filled + k → drop n bytes ≡ replicate (137 - n) 0
fewer_zeros bytes filled k n h e =
    ap (λ m. drop m bytes) e
    ∙ (sym (drop-drop k filled bytes) ∙ (ap (drop k) h.rest ∙ (drop-replicate k (137 - filled) 0 ∙ ap (λ m. replicate m 0) (less filled k n e))))

pub filled_by_one : (bytes : List ℕ) (filled byte : ℕ) → IsFilled bytes filled → filled < 137 → IsFilled (set bytes filled byte) (filled + 1)
filled_by_one bytes filled byte h room =
    record {
      size = length-set bytes filled byte ∙ h.size;
      fits = omega arith;
      rest = drop-set-lt (filled + 1) bytes filled byte (omega arith) ∙ fewer_zeros bytes filled 1 (filled + 1) h (omega arith);
    }

pub filled_by_more : (bytes more : List ℕ) (filled k n : ℕ) → IsFilled bytes filled → n ≡ filled + k → k ≡ length more → n ≤ 137 → IsFilled (put_mid filled k bytes more) n
filled_by_more bytes more filled k n h e long room =
    let size = h.size in
    record {
      size = simp (length-append, length-take, length-drop) (omega arith);
      fits = room;
      rest = drop-put_mid filled k bytes more n (omega arith) (omega arith) (sym long) ∙ fewer_zeros bytes filled k n h e;
    }
