use Rattle.std.proofs.Common.{refl}
use Rattle.domain_edits.proofs.ChangedDomains.{takes}
use Rattle.domain_edits.proofs.dropping.DroppedCheckMaking.edit.Goals as goal

pub returns : goal.returns
returns c =
    let s = c.args.self.now in
    takes c.args._c.now.items s.domain s.name c.args.made.checks c.requires.made.0 (record { target = c.args.made.checks; changed = c.new.result; added = c.new-2.result }) refl c.new.ensures c.new-2.ensures
