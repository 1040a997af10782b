use Rattle.std.proofs.Common.{[], ◌∷◌, refl}
use Rattle.cat_items.specs.declared.edit.Refusal.TheVariants.{RoleCycle}
use Rattle.edit_rules.proofs.FirstLaws.{passes_behind, passes_first}
use Rattle.role_edit.specs.GrantedRoles.{role_name_refusals, role_cycle, no_admin_option}
use Rattle.role_edit.proofs.Granting.{sound_of_granting}
use Rattle.role_edit.proofs.grants.grant_roles.Goals as goal

pub returns-clause-sound : goal.returns-clause-sound
returns-clause-sound c =
    let items = c.args.c.now.items in
    let who = c.args.who.now in
    let parts = c.args.parts.now in
    let cycle = role_cycle items parts.roles parts.grantees in
    let lacks = no_admin_option items who parts.grantor parts.roles in
    let later = passes_behind (role_name_refusals items who parts.roles parts.grantees parts.grantor) (cycle ∷ lacks ∷ []) c.in_ok-grantor.ensures.0 in
    sound_of_granting items c.in_ok-grantor.grantor parts.roles parts.grantees parts.admin_option (record { target = c.new.result; changed = c.new-2.result; added = c.in_ok-added.added }) c.requires
    (λ h. passes_first cycle (lacks ∷ []) later RoleCycle (h, refl)) (record { target = c.new.ensures; changed = c.new-2.ensures; added = c.in_ok-added.ensures })
