use Rattle.part_rescue.proofs.Found.{has_asked, is_found, is_new}
use Rattle.part_rescue.proofs.laws.what_is_rescued_is_found.Goals as goal

pub returns : goal.returns
returns c = record { found = is_found; new = is_new; whole = has_asked }
