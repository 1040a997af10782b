use Rattle.std.proofs.Common.{ap}
use Rattle.cat_items.specs.Catalogues.{Listing}
use Rattle.edit_rules.proofs.PutItems.{put_or_there}
use Rattle.edit_rules.proofs.putting.put.Goals as goal

pub returns-clause-members : goal.returns-clause-members
returns-clause-members c = put_or_there _ _ _ _ c.in_ok-put_new.ensures.members c.in_ok-put_new.ensures.found (λ no. ap (λ (l : Listing). l.items) (c.in_ok-put_new.ensures.same no)) c.requires
