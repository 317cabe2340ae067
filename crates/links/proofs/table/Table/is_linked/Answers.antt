use Rattle.std.proofs.Common.{sym, ◌∙◌, rules, tests}
use Rattle.std.proofs.lemmas.Iterator.{YieldsList-from_slice}
use Rattle.std.proofs.lemmas.Iterator.Search.{any_from_yields_List}
use Rattle.links.specs.Links.{holds}
use Rattle.links.proofs.Counting.{linked_any}
use Rattle.links.proofs.table.Table.is_linked.Goals as goal

pub returns : goal.returns
returns c =
    any_from_yields_List (holds c.args.address) _ _ _ c.any.ensures.ran (YieldsList-from_slice c.args.self.now cc) (λ x b q k. search (rules, tests))
    ∙ sym (linked_any c.args.address c.args.self.now)
