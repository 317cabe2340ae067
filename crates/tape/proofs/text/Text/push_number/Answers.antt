use Rattle.std.proofs.Common.{length, decimal, ◌∙◌, ap, arith, lit<}
use Rattle.std.proofs.lemmas.List.{length-append}
use Rattle.std.proofs.lemmas.Fmt.{length-decimal-le}
use Rattle.tape.proofs.text.Text.push_number.Goals as goal

pub push_digits-requires : goal.push_digits-requires
push_digits-requires c = omega (arith, length-decimal-le 3 c.args.number (lit< tt) (omega arith) (omega arith))

pub returns-clause-bound : goal.returns-clause-bound
returns-clause-bound c =
    let short = length-decimal-le 3 c.args.number (lit< tt) (omega arith) (omega arith) in
    let longer = ap length c.push_digits.ensures ∙ length-append c.args.self.now (decimal c.args.number) in
    omega arith
