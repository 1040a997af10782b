use Rattle.grant_edit.specs.Revokes.{revoked_of}
use Rattle.grant_edit.proofs.RightPlaces.{identified_at}
use Rattle.grant_edit.proofs.taking.identified.Goals as goal

pub chosen_in-requires : goal.chosen_in-requires
chosen_in-requires c = λ x there is. c.rights_on-parts.ensures x (identified_at (revoked_of c.args.revoking) c.requires x is)
