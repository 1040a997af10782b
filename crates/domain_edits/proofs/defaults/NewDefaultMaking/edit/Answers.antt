use Rattle.domain_edits.proofs.ChangedDomains.{default_edit}
use Rattle.domain_edits.proofs.defaults.NewDefaultMaking.edit.Goals as goal

pub returns : goal.returns
returns c = default_edit c.args._c.now.items c.args.self.now.domain c.args.self.now.default c.args.made.old c.requires.made.0 c.in_ok-new.new c.replacing.result c.in_ok-new.ensures c.replacing.ensures
