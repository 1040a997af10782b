use Rattle.std.proofs.Common.{[], ◌∷◌, refl, sym, subst, inl}
use Rattle.cat_items.specs.declared.edit.Refusal.TheVariants.{NameReserved, NameExists}
use Rattle.edit_rules.specs.Grantors.{no_current_role}
use Rattle.edit_laws.specs.Sound.{IsSound}
use Rattle.edit_rules.proofs.FirstLaws.{passes_first, passes_rest, passes_that}
use Rattle.role_edit.specs.CreatedRoles.{reserved_role, authorization_exists, IsReservedRole, IsTaken}
use Rattle.role_edit.proofs.Creating.{admin_is_another, sound_of_creating}
use Rattle.role_edit.proofs.creations.create_role.Goals as goal

pub returns-clause-sound : goal.returns-clause-sound
returns-clause-sound c =
    let items = c.args.c.now.items in
    let who = c.args.who.now in
    let role = c.args.parts.now.role in
    let all = c.in_ok-admin.ensures.0 in
    let none = no_current_role items who c.args.parts.now.admin in
    let taken = authorization_exists items who role in
    let free : ¬ (IsReservedRole role) = λ h. passes_first (reserved_role role) (none ∷ taken ∷ []) all NameReserved (h, refl) in
    let later = passes_rest none (taken ∷ []) (passes_rest (reserved_role role) (none ∷ taken ∷ []) all) in
    let new : ¬ (IsTaken items who role) = λ h. passes_that taken later (NameExists (role ∷ [])) (h, refl) in
    subst (IsSound items) (sym c.in_ok-creating_role.ensures)
    (sound_of_creating items role c.in_ok-admin.admin c.requires (λ h. new (inl h)) (admin_is_another items who c.args.parts.now.admin role c.in_ok-admin.admin c.requires new c.in_ok-admin.ensures.1) free)
