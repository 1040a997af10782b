use Rattle.catalogue_edits.proofs.Settled.{revision_settled}
use Rattle.catalogue_edits.proofs.laws.a_revision_is_settled.Goals as goal

pub returns : goal.returns
returns c = revision_settled
