use Rattle.std.proofs.Common.{◌≡◌, true, arith, rules}
use Rattle.arrays.specs.Store.{present}
use Rattle.arrays.specs.Kinds.{in_dump}
use Rattle.arrays.proofs.Found.{dump_page}
use Rattle.arrays.proofs.dump.Dump.find_page.Goals as goal

pub page_place-requires : goal.page_place-requires
page_place-requires c =
    let t : present (in_dump c.args.self.now) c.args.block c.args.page c.args.size ≡ true = search rules in
    let f = dump_page c.args.self.now c.args.block c.args.page c.args.size t in
    (f.on.sized.n_most, (f.on.sized.p_most, (f.on.inside, f.within)))

pub returns-then-size-eq-PAGE : goal.returns-then-size-eq-PAGE
returns-then-size-eq-PAGE c =
    let t : present (in_dump c.args.self.now) c.args.block c.args.page c.args.size ≡ true = search rules in
    let f = dump_page c.args.self.now c.args.block c.args.page c.args.size t in
    record {
      exists = t;
      long = f.long;
      start = c.page_place.ensures.start;
      end = omega arith;
      inside = omega (arith, f.ends);
    }
