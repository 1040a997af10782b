use Rattle.std.proofs.Common.{◌∙◌, map, ap}
use Rattle.std.proofs.lemmas.List.{length-map}
use Rattle.ddl_service.proofs.UserLists.{parts-some, listing}
use Rattle.ddl_service.proofs.command_line.listed.Goals as goal

pub users_of-requires : goal.users_of-requires
users_of-requires c = rw c.deref.ensures.value (simp length-map at (parts-some _ c.args.list.now c.in_ok-parts.ensures))

pub returns : goal.returns
returns c = listing (λ names. names.items) c.users_of.result _ c.args.list.now (ap (map (λ part. part.now)) c.deref.ensures.value ∙ c.in_ok-parts.ensures) c.users_of.ensures
