use Rattle.edit_laws.proofs.ProperEdits.{sound_edit}
use Rattle.edit_laws.proofs.laws.proper_edits_are_sound.Goals as goal

pub returns : goal.returns
returns c = sound_edit
