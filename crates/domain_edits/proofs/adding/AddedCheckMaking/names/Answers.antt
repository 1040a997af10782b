use Rattle.domain_edits.proofs.ChangedDomains.{names_tested}
use Rattle.domain_edits.proofs.adding.AddedCheckMaking.names.Goals as goal

pub returns : goal.returns
returns c = names_tested c.args.c.now.items c.args.who.now c.args.self.now.domain c.args.self.now.checks c.in_ok-domain.domain c.all_found.result c.in_ok-domain.ensures.1 c.in_ok-domain.ensures.0 c.all_found.ensures
