use Rattle.cat_engine.proofs.LegalLaws.{one_opening}
use Rattle.cat_engine.proofs.laws.users_and_limits_have_one_opening.Goals as goal

pub returns : goal.returns
returns c = one_opening
