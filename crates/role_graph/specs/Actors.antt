-- What a lent authorization identifier stands for.
use Rattle.cat_items.specs.declared.need.Auth.{Auth}
use Rattle.cat_items.specs.declared.need.Auth.TheVariants as auth
use Rattle.role_graph.specs.declared.actor.Actor.{Actor}
use Rattle.role_graph.specs.declared.actor.Actor.TheVariants.{System, Public, Named}

abbrev pub auth_of : Actor → Auth
auth_of System = auth.System
auth_of Public = auth.Public
auth_of (Named name) = auth.Named name.now
