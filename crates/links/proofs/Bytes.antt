-- The bytes of entries in a row.
use Rattle.std.proofs.Common.{◌≡◌, ℕ, ◌+◌, ◌*◌, ◌<◌, ◌≤◌, List, [], ◌++◌, length, get_or, take, sym, refl, ap, ◌∙◌, arith}
use borrow.Rule.Slice.PartMut.{put_mid}
use Rattle.std.proofs.lemmas.List.{take_more, flat_map_more}
use Rattle.std.proofs.lemmas.Slice.{take-put_mid}
use Rattle.links.specs.declared.entry.Entry.{Entry}
use Rattle.links.specs.declared.entry.Entry.TheVariants.{Unused, Live, Retired}
use Rattle.links.specs.Links.{entry_bytes, table_bytes}

pub four : (e : Entry) → length (entry_bytes e) ≡ 4
four Unused = refl
four (Live a b) = refl
four (Retired a b) = refl

-- one more entry written
pub bytes_more : (es : List Entry) (i k : ℕ) (area ys : List ℕ) → i < length es → 4 * i ≤ length area → ys ≡ entry_bytes (get_or es i Unused) →
    take (4 * i) area ≡ table_bytes (take i es) → take (4 * (i + 1)) (put_mid (4 * i) k area ys) ≡ table_bytes (take (i + 1) es)
bytes_more es i k area ys h le e inv =
    let long : length ys ≡ 4 = ap length e ∙ four (get_or es i Unused) in
    take-put_mid (4 * i) k area ys (4 * (i + 1)) (omega arith) le
    ∙ (λ j. inv j ++ e j)
    ∙ flat_map_more entry_bytes [] (take i es) (get_or es i Unused)
    ∙ ap table_bytes (sym (take_more es i Unused h))
