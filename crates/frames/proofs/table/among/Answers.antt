use Rattle.std.proofs.Common.{eqb, ◌∙◌, rules, tests}
use Rattle.std.proofs.lemmas.Iterator.{YieldsList-from_slice}
use Rattle.std.proofs.lemmas.Iterator.Search.{find_from_yields_List}
use Rattle.frames.proofs.table.among.Goals as goal

pub returns-clause-line : goal.returns-clause-line
returns-clause-line c =
    c.copied.ensures
    ∙ find_from_yields_List (λ x. eqb x.0 c.args.code) _ _ c.find.result c.find.ensures.ran (YieldsList-from_slice c.args.lines.now cc) (λ x b q k. search (rules, tests))
