use Rattle.catalogue_edits.proofs.SoundEdits.{edit_leaves_users}
use Rattle.catalogue_edits.proofs.laws.edits_leave_users.Goals as goal

pub returns : goal.returns
returns c = edit_leaves_users
