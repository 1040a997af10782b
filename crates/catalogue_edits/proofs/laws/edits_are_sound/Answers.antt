use Rattle.catalogue_edits.proofs.SoundEdits.{edit_is_sound}
use Rattle.catalogue_edits.proofs.laws.edits_are_sound.Goals as goal

pub returns : goal.returns
returns c = edit_is_sound
