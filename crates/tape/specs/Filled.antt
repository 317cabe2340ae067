-- How a text lies in its array, and how it gives that array back.
use Rattle.std.specs.Prelude.{◌≡◌, ℕ, ◌-◌, ◌≤◌, List, ◌++◌, length, take, drop, replicate}
use Rattle.std.proofs.Common.{sym, ap, ◌∙◌, subst}
use Rattle.std.proofs.lemmas.List.{take-append-drop, length-take-le}

-- the first `filled` bytes are the text, and those after it are 0
pub record IsFilled (bytes : List ℕ) (filled : ℕ) : Type 0 where
  pub size : length bytes ≡ 137
  pub fits : filled ≤ 137
  pub rest : drop filled bytes ≡ replicate (137 - filled) 0

pub filled_back : (bytes : List ℕ) (filled : ℕ) → IsFilled bytes filled → length (take filled bytes) ≡ filled
filled_back bytes filled h = length-take-le filled bytes (subst (λ n. filled ≤ n) (sym h.size) h.fits)

pub bytes_back : (bytes : List ℕ) (filled : ℕ) → IsFilled bytes filled → take filled bytes ++ replicate (137 - length (take filled bytes)) 0 ≡ bytes
bytes_back bytes filled h =
    ap (λ n. take filled bytes ++ replicate (137 - n) 0) (filled_back bytes filled h)
    ∙ (ap (λ l. take filled bytes ++ l) (sym h.rest) ∙ take-append-drop filled bytes)
