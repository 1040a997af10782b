use Rattle.table_additions.proofs.NamedTests.{needed_for}
use Rattle.table_additions.proofs.adding.NewPartsMaking.needs.Goals as goal

pub returns : goal.returns
returns c = λ need.
    let s = c.args.self.now in
    let here = c.requires.3 need in
    let for_all = needed_for c.args._c.now.items s.table s.parts c.requires.0 c.requires.1 c.args._who.now need in
    (λ h. for_all.0 (here.0 h), λ h. here.1 (for_all.1 h))
