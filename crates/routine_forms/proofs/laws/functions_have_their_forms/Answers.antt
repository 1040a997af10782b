use Rattle.routine_forms.proofs.FormedBodies.{function_forms}
use Rattle.routine_forms.proofs.laws.functions_have_their_forms.Goals as goal

pub returns : goal.returns
returns c = function_forms
