use Rattle.std.proofs.Common.{rules}
use Rattle.std.proofs.lemmas.List.Edits.{map_over_more}
use Rattle.std.proofs.lemmas.List.{take_all, drop_all, append-nil}
use Rattle.links.specs.Links.{retired_if}
use Rattle.links.proofs.swap.retire_link.Goals as goal

pub loop-e-preserved : goal.loop-e-preserved
loop-e-preserved c = search (rules, map_over_more (retired_if c.args.first))

pub returns : goal.returns
returns c = search (rules, take_all, drop_all, append-nil)
