use Rattle.std.proofs.Common.{refl}
use Rattle.drop_edit.proofs.PartLemmas.{assertion_held}
use Rattle.drop_edit.proofs.parts.assertion_parts.Goals as goal

pub returns : goal.returns
returns c = assertion_held c.args.object.now _ refl
