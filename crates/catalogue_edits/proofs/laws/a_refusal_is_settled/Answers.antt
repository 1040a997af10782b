use Rattle.catalogue_edits.proofs.Settled.{refusal_settled}
use Rattle.catalogue_edits.proofs.laws.a_refusal_is_settled.Goals as goal

pub returns : goal.returns
returns c = refusal_settled
