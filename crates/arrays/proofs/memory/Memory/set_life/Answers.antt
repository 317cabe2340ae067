use Rattle.std.proofs.Common.{◌≡◌, ◌-◌, ◌≤◌, length, ap, ◌∙◌, arith, rules}
use borrow.Rule.Slice.PartMut.{put_mid}
use Rattle.arrays.specs.Store.{with_life}
use Rattle.arrays.specs.Kinds.{in_memory}
use Rattle.arrays.specs.Layout.{memory_store, number}
use Rattle.arrays.proofs.Found.{memory_block, life_sized, life_inside}
use Rattle.arrays.proofs.Written.{write_life, number_digits}
use Rattle.arrays.proofs.memory.Memory.set_life.Goals as goal

pub life_place-place-requires : goal.life_place-place-requires
life_place-place-requires c = life_sized c.args.self.now c.args.block c.requires

pub slice_bounds-copy_from_slice-end : goal.slice_bounds-copy_from_slice-end
slice_bounds-copy_from_slice-end c =
    let m = c.args.self.now in
    let h : c.life_place-place.result.end ≤ length m.bytes.now = life_inside m c.args.block _ c.requires c.life_place-place.ensures.end in
    search rules

pub returns-clause-after : goal.returns-clause-after
returns-clause-after c =
    let m = c.args.self.now in
    let n = m.layout.blocks in
    let p = m.layout.pages in
    let xs = m.bytes.now in
    let b = c.args.block in
    let on = memory_block m b c.requires in
    let place = c.life_place-place in
    let four : place.result.end - place.result.start ≡ 4 = omega arith in
    let made = c.copy_from_slice.ensures.after ∙ c.to_be_bytes.ensures in
    (λ i. memory_store n p (put_mid (place.ensures.start i) (four i) xs c.copy_from_slice.new.self))
    ∙ write_life n p xs c.copy_from_slice.new.self b on.fitting on.inside (ap length made)
    ∙ ap (with_life (in_memory m) b) (ap number made ∙ number_digits c.args.life (omega arith))
