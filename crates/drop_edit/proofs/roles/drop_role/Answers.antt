use Rattle.std.proofs.Common.{[], ◌∷◌, refl}
use Rattle.cat_items.specs.declared.edit.Refusal.TheVariants.{UnknownName}
use Rattle.cat_items.specs.Rights.{admin}
use Rattle.edit_rules.specs.Names.{unknown_role}
use Rattle.edit_rules.specs.Privileges.{no_privilege}
use Rattle.edit_rules.proofs.FirstLaws.{passes_first}
use Rattle.drop_edit.proofs.RoleLemmas.{sound_of_dropping}
use Rattle.drop_edit.proofs.roles.drop_role.Goals as goal

pub returns-clause-sound : goal.returns-clause-sound
returns-clause-sound c =
    let items = c.args.c.now.items in
    let role = c.args.role.now in
    let lacks = no_privilege items c.args.who.now.user (admin role ∷ []) in
    sound_of_dropping items role (record { target = c.in_ok-target.target; changed = c.new.result; added = c.new-2.result }) c.requires
    (λ none. passes_first (unknown_role items role) (lacks ∷ []) c.in_ok-test_drop.ensures.0 (UnknownName (role ∷ [])) (none, refl))
    (record { target = c.in_ok-target.ensures; changed = c.new.ensures; added = c.new-2.ensures })
