use Rattle.routine_forms.proofs.FormedBodies.{procedure_forms}
use Rattle.routine_forms.proofs.laws.procedures_have_their_forms.Goals as goal

pub returns : goal.returns
returns c = procedure_forms
