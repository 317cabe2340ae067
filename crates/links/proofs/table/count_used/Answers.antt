use Rattle.std.proofs.Common.{◌+◌, drop, sym, ◌∙◌, arith, rules}
use Rattle.std.proofs.lemmas.List.{at_drop_more, at_drop_all}
use Rattle.std.proofs.lemmas.Bool.{cond-true, cond-false}
use Rattle.links.specs.Links.{used}
use Rattle.links.specs.declared.entry.Entry.TheVariants.{Unused}
use Rattle.links.proofs.table.count_used.Goals as goal
use Rattle.links.proofs.table.count_used.Goals.{then-is_used, else-is_used}

pub loop-e-preserved : goal.loop-e-preserved
loop-e-preserved c =
    let rest = used (drop (c.loop-e.e-index + 1) c.args.entries.now) in
    let here = at_drop_more used c.args.entries.now c.loop-e.e-index Unused c.loop-e-test.true in
    elim c.if-is_used.branch [
      | then-is_used w ↦ let more = here ∙ cond-true _ (1 + rest) rest (sym w.if-is_used.ensures) in (omega (arith, w.count-is), omega (arith, w.count-is, more))
      | else-is_used w ↦ let same = here ∙ cond-false _ (1 + rest) rest (sym w.if-is_used.ensures) in (omega (arith, w.count-is), omega (arith, w.count-is, same))
    ]

pub returns : goal.returns
returns c = search (rules, at_drop_all used)
