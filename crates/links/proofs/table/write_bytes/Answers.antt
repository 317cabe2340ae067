use Rattle.std.proofs.Common.{sym, ap, ◌∙◌, arith}
use Rattle.std.proofs.lemmas.List.{take_all}
use Rattle.links.specs.Links.{table_bytes}
use Rattle.links.proofs.Bytes.{bytes_more}
use Rattle.links.proofs.table.write_bytes.Goals as goal

pub loop-i-preserved : goal.loop-i-preserved
loop-i-preserved c =
    bytes_more c.args.entries.now c.loop-i.i _ c.loop-i.area _ c.loop-i-test.true (omega arith) (c.copy_from_slice.ensures.after ∙ c.bytes.ensures) c.loop-i.invariant

pub returns : goal.returns
returns c =
    sym (take_all _ c.loop-i.area (omega arith)) ∙ c.loop-i.invariant ∙ ap table_bytes (take_all c.loop-i.i c.args.entries.now c.loop-i-test.false)
