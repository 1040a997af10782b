use Rattle.role_graph.proofs.LoopLemmas.{join}
use Rattle.table_elements.proofs.DomainNames.{domain_there}
use Rattle.table_elements.proofs.names.is_domain.Goals as goal

pub returns : goal.returns
returns c = join c.is_domain.ensures (domain_there c.args.c.now.items c.args.domain.now)
