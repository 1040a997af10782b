use Rattle.domain_edits.proofs.ChangedDomains.{needed}
use Rattle.domain_edits.proofs.adding.AddedCheckMaking.needs.Goals as goal

pub returns : goal.returns
returns c = needed c.args._c.now.items c.args._who.now c.args.self.now.domain c.args.self.now.checks c.args.made.now.all c.args.made.now.needs c.requires
