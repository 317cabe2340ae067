use Rattle.std.proofs.Common.{◌*◌, ◌<◌, sym, ◌∙◌, mod-eq_of_lt, arith}
use Rattle.parts.proofs.rows.Rows.within.Goals as goal

-- the number of rows does not fit into 64 bits, and a row fits into 16
pub returns-in-None : goal.returns-in-None
returns-in-None c =
    let below : c.args.row < c.args.self.blocks * c.args.self.pages = omega (arith, c.in-None.ensures) in
    c.from-row.ensures ∙ sym (mod-eq_of_lt below)
