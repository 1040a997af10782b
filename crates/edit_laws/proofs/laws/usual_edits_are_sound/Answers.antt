use Rattle.edit_laws.proofs.FormLaws.{sound_form}
use Rattle.edit_laws.proofs.laws.usual_edits_are_sound.Goals as goal

pub returns : goal.returns
returns c = sound_form
