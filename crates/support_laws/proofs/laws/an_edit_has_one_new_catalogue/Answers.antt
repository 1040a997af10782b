use Rattle.support_laws.proofs.Settled.{one_new}
use Rattle.support_laws.proofs.laws.an_edit_has_one_new_catalogue.Goals as goal

pub returns : goal.returns
returns c = one_new
