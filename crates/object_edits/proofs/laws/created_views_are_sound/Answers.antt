use Rattle.object_edits.proofs.SoundViews.{sound_creation}
use Rattle.object_edits.proofs.laws.created_views_are_sound.Goals as goal

pub returns : goal.returns
returns c = sound_creation
