use Rattle.grant_edit.proofs.RightPlaces.{rights_held}
use Rattle.grant_edit.proofs.taking.rights_on.Goals as goal

pub returns : goal.returns
returns c = rights_held c.args.object.now c.into-key.result c.into-key.ensures
