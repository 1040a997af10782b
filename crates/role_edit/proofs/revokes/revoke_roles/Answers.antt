use Rattle.role_edit.proofs.GrantPlaces.{identified_lies}
use Rattle.role_edit.proofs.Taking.{sound_of_revoking}
use Rattle.role_edit.proofs.revokes.revoke_roles.Goals as goal

pub chosen_in-requires : goal.chosen_in-requires
chosen_in-requires c = λ x there is. identified_lies c.in_ok-grantor.grantor c.args.parts.now _ (rw (← c.deref.ensures.value) at c.in_ok-places.ensures) x is

pub returns-clause-sound : goal.returns-clause-sound
returns-clause-sound c = sound_of_revoking c.args.c.now.items c.in_ok-grantor.grantor c.args.parts.now (record { target = c.in_ok-target.target; changed = c.new.result; added = c.new-2.result }) c.requires
    (record { target = c.in_ok-target.ensures; changed = c.new.ensures; added = c.new-2.ensures })
