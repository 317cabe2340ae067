use Rattle.std.proofs.Common.{rules}
use Rattle.links.proofs.Finding.{partner_found}
use Rattle.links.proofs.table.partner_among.Goals as goal

pub returns : goal.returns
returns c = partner_found c.args.n c.args.entries.now c.args.address c.find_map.result (λ q k l. search rules) (λ y q. search rules)
