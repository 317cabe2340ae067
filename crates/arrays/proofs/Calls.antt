-- What read and program leave, from the place that was found for the page.
use Rattle.std.proofs.Common.{◌≡◌, ℕ, ◌-◌, true, List, length, take, drop, sym, ap, ◌∙◌, arith, Ok}
use lib.Bits.{bit_and}
use lib.Lanes.{zip2}
use borrow.Rule.Slice.PartMut.{put_mid}
use Rattle.std.specs.declared.ops.Range.{Range}
use Rattle.std.proofs.lemmas.Bool.{cond-true, and_from}
use Rattle.std.proofs.lemmas.Grind.{common_steps}
use Rattle.arrays.specs.declared.memory.Memory.{Memory}
use Rattle.arrays.specs.declared.dump.Dump.{Dump}
use Rattle.arrays.specs.Store.{present, lives, lifeless, area_after, after_program}
use Rattle.arrays.specs.Kinds.{in_memory, in_dump, PageIn, life_answer}
use Rattle.arrays.specs.Layout.{at_page, memory_store}
use Rattle.arrays.proofs.Found.{dump_page, memory_page}
use Rattle.arrays.proofs.Written.{and_page}

pub reads_page : (d : Dump) (b q : ℕ) (place : Range ℕ) (area : List ℕ) → PageIn d b q (length area) place
    → take (place.end - place.start) (drop place.start d.bytes.now) ≡ area_after (in_dump d) b q area
reads_page d b q place area found =
    let f = dump_page d b q (length area) found.exists in
    let k : place.end - place.start ≡ 2112 = omega arith in
    (λ i. take (k i) (drop (found.start i) d.bytes.now)) ∙ sym f.holds ∙ sym (cond-true _ _ _ found.exists)

pub programs_page : (m : Memory) (d : Dump) (b q life : ℕ) (place : Range ℕ) (new bytes : List ℕ)
    → in_dump d ≡ lifeless (in_memory m) → d.layout ≡ m.layout → PageIn d b q (length new) place → Ok life ≡ life_answer (in_memory m) b
    → bytes ≡ zip2 bit_and (take (place.end - place.start) (drop place.start m.bytes.now)) new
    → memory_store m.layout.blocks m.layout.pages (put_mid place.start (place.end - place.start) m.bytes.now bytes) ≡ after_program (in_memory m) b q new
programs_page m d b q life place new bytes meaning layout found living e =
    let n = m.layout.blocks in
    let p = m.layout.pages in
    let xs = m.bytes.now in
    let exists = sym (ap (λ s. present s b q (length new)) meaning) ∙ found.exists in
    let alive : lives (in_memory m) b ≡ true = grind (arith, common_steps, exists) in
    let f = memory_page m b q (length new) exists in
    let start = found.start ∙ (λ i. at_page (layout i).blocks (layout i).pages b q) in
    let k : place.end - place.start ≡ 2112 = omega arith in
    let z = e ∙ (λ i. zip2 bit_and (take (k i) (drop (start i) xs)) new) in
    (λ i. memory_store n p (put_mid (start i) (k i) xs (z i)))
    ∙ and_page n p xs new b q f.on.fitting f.on.inside f.within f.long
    ∙ sym (cond-true _ _ _ (and_from _ _ exists alive))
