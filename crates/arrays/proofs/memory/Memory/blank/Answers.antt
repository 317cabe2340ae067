use Rattle.std.proofs.Common.{◌≡◌, ◌-◌, ◌*◌, ◌≤◌, length, replicate, ap, ◌∙◌, arith, rules}
use borrow.Rule.Slice.PartMut.{put_mid}
use Rattle.arrays.specs.Layout.{memory_store}
use Rattle.arrays.proofs.Found.{memory_block}
use Rattle.arrays.proofs.Pieces.{length_part}
use Rattle.arrays.proofs.Places.{block_ends}
use Rattle.arrays.proofs.Written.{blank_block}
use Rattle.arrays.proofs.memory.Memory.blank.Goals as goal

pub block_place-place-requires : goal.block_place-place-requires
block_place-place-requires c =
    let on = memory_block c.args.self.now c.args.block c.requires in
    (on.sized.n_most, (on.sized.p_most, on.inside))

pub slice_bounds-fill-end : goal.slice_bounds-fill-end
slice_bounds-fill-end c =
    let m = c.args.self.now in
    let on = memory_block m c.args.block c.requires in
    let h : c.block_place-place.result.end ≤ length m.bytes.now
    = omega (arith, block_ends m.layout.blocks m.layout.pages c.args.block (length m.bytes.now) on.inside on.sized.long) in
    search rules

pub returns-clause-after : goal.returns-clause-after
returns-clause-after c =
    let m = c.args.self.now in
    let n = m.layout.blocks in
    let p = m.layout.pages in
    let xs = m.bytes.now in
    let place = c.block_place-place in
    let on = memory_block m c.args.block c.requires in
    let k : place.result.end - place.result.start ≡ 2112 * p = omega arith in
    let ends : place.result.end ≤ length xs = omega (arith, block_ends n p c.args.block (length xs) on.inside on.sized.long) in
    let z : c.fill.new.self ≡ replicate (2112 * p) 255 = c.fill.ensures.after (λ y e. e) ∙ ap (λ v. replicate v 255) (length_part _ place.result.start xs (omega arith) ∙ k) in
    (λ i. memory_store n p (put_mid (place.ensures.start i) (k i) xs (z i))) ∙ blank_block n p xs c.args.block on.fitting on.inside
