use Rattle.board_steps.proofs.Edited.{good_apart, new_apart}
use Rattle.board_steps.proofs.laws.no_catalogue_has_a_helper.Goals as goal

pub returns-clause-good : goal.returns-clause-good
returns-clause-good c = good_apart

pub returns-clause-new : goal.returns-clause-new
returns-clause-new c = new_apart
