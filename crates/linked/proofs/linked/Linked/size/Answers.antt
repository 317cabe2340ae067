use Rattle.std.proofs.Common.{rules}
use Rattle.linked.proofs.Showing.{shown_shape}
use Rattle.linked.proofs.linked.Linked.size.Goals as goal

pub returns-clause-shape : goal.returns-clause-shape
returns-clause-shape g c = search (rules, shown_shape)
