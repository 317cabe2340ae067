use Rattle.std.proofs.Common.{length, ap, arith}
use Rattle.tape.specs.Filled.{filled_back}
use Rattle.tape.proofs.Filling.{filled_by_more}
use Rattle.tape.proofs.text.Text.push_hex.Goals as goal

pub invariant_of-self : goal.invariant_of-self
invariant_of-self c =
    let long = filled_back c.self.inside.bytes c.self.inside.filled c.self.invariant in
    filled_by_more _ _ _ _ _ c.self.invariant (omega arith) (omega arith) (omega (arith, ap length c.self.view_is))
