use Rattle.std.proofs.Common.{sym, ◌∙◌, rules, tests}
use Rattle.std.proofs.lemmas.Iterator.{YieldsList-from_slice}
use Rattle.std.proofs.lemmas.Iterator.Search.{all_from_yields_List}
use Rattle.links.specs.Links.{is_used}
use Rattle.links.proofs.Counting.{full_all}
use Rattle.links.proofs.table.all_used.Goals as goal

pub returns : goal.returns
returns c =
    all_from_yields_List is_used _ _ _ c.all.ensures.ran (YieldsList-from_slice c.args.entries.now cc) (λ x b q k. search (rules, tests))
    ∙ sym (full_all c.args.entries.now)
