use Rattle.catalogue_edits.proofs.Openings.{opening_good}
use Rattle.catalogue_calls.proofs.reading.opening.Goals as goal

pub new-requires : goal.new-requires
new-requires c = opening_good c.in_ok-users.field-0.items c.in_ok-catalogue.catalogue.items c.in_ok-users.ensures.allowed c.in_ok-catalogue.ensures.order c.in_ok-catalogue.ensures.members
