use Rattle.std.proofs.Common.{length, decimal, ◌/◌, ◌∙◌, ap, arith}
use Rattle.std.proofs.lemmas.List.{length-append}
use Rattle.tape.proofs.Writing.{length_one, length_more, number_one, number_more}
use Rattle.tape.proofs.text.Text.+push_digits.Goals as goal

pub push_byte-requires : goal.push_byte-requires
push_byte-requires t c = omega (arith, length_one c.args.number (omega arith))

pub returns-then-number-lt10 : goal.returns-then-number-lt10
returns-then-number-lt10 t c = number_one _ _ c.args.number (omega arith) c.push_byte.ensures

pub push_digits-requires : goal.push_digits-requires
push_digits-requires t c =
    let more = length_more c.args.number (omega arith) (omega arith) in
    (omega arith, omega arith)

pub push_byte-requires-2 : goal.push_byte-requires-2
push_byte-requires-2 t c =
    let more = length_more c.args.number (omega arith) (omega arith) in
    let longer = ap length c.push_digits.ensures ∙ length-append c.args.self.now (decimal (c.args.number / 10)) in
    omega arith

pub returns : goal.returns
returns t c = number_more _ _ _ c.args.number (omega arith) (omega arith) c.push_digits.ensures c.push_byte-2.ensures
