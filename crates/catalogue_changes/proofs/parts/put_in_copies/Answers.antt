use Rattle.catalogue_changes.proofs.Changed.{same_join}
use Rattle.catalogue_changes.proofs.parts.put_in_copies.Goals as goal

pub returns-clause-members : goal.returns-clause-members
returns-clause-members c = same_join _ _ _ _ _ c.in_ok-reserve.ensures.items c.in_ok-copies.ensures c.put_in_all.ensures.members
