use Rattle.std.proofs.Common.{◌<◌, ◌≤◌, length, arith, rules}
use Rattle.std.proofs.lemmas.Grind.{common_steps}
use Rattle.arrays.specs.Kinds.{in_memory}
use Rattle.arrays.proofs.Found.{life_sized, life_inside}
use Rattle.arrays.proofs.memory.Memory.life.Goals as goal

pub life_place-requires : goal.life_place-requires
life_place-requires c = life_sized c.args.self.now c.args.block (grind (arith, common_steps))

pub slice_bounds-number_in-end-2 : goal.slice_bounds-number_in-end-2
slice_bounds-number_in-end-2 c =
    let b : c.args.block < (in_memory c.args.self.now).blocks = grind (arith, common_steps) in
    let h : c.life_place.result.end ≤ length c.args.self.now.bytes.now = life_inside c.args.self.now c.args.block _ b c.life_place.ensures.end in
    search rules
