use Rattle.added_parts.proofs.Extending.{looked_up}
use Rattle.added_parts.proofs.extended.is_there.Goals as goal

pub returns : goal.returns
returns c = looked_up c.args.c.now.items c.args.x.now c.requires c.find.result c.is_some.result c.is_some.ensures c.find.ensures.found c.find.ensures.none
