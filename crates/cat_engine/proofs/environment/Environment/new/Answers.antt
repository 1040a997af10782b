use Rattle.std.proofs.Common.{◌↔◌, List, sym, subst}
use Rattle.std.specs.List.{Contains}
use Rattle.cat_items.specs.declared.item.Item.{Item}
use Rattle.cat_items.specs.Catalogues.{IsUserOf}
use Rattle.catalogue_edits.proofs.Openings.{opening_good}
use Rattle.cat_engine.proofs.environment.Environment.new.Goals as goal

pub new-requires : goal.new-requires
new-requires c = opening_good c.args.users.now.items c.in_ok-opening.opening.items c.requires.allowed c.in_ok-opening.ensures.order c.in_ok-opening.ensures.members

pub returns-clause-members : goal.returns-clause-members
returns-clause-members c = subst (λ (l : List Item). (x : Item) → Contains l x ↔ IsUserOf c.args.users.now.items x) (sym c.in_ok-new.ensures) c.in_ok-opening.ensures.members
