use Rattle.std.proofs.Common.{[], ◌∷◌, subst}
use Rattle.cat_items.specs.Rights.{admin}
use Rattle.cat_items.specs.declared.edit.Refusal.{Refusal}
use Rattle.edit_rules.specs.First.{HasPassed}
use Rattle.edit_rules.specs.Names.{unknown_role}
use Rattle.edit_rules.specs.Privileges.{no_privilege}
use Rattle.edit_rules.proofs.FirstLaws.{tested_by_others}
use Rattle.drop_edit.proofs.roles.test_drop.Goals as goal

pub returns : goal.returns
returns c =
    let items = c.args.c.now.items in
    let user = c.args.who.now.user in
    let role = c.args.role.now in
    let done : Unit {0} → Type 0 = λ v. Unit {0} in
    let unknown : Refusal → Type 0 = unknown_role items role in
    let lacks : Refusal → Type 0 = no_privilege items user (admin role ∷ []) in
    tested_by_others (unknown ∷ []) (lacks ∷ []) done c.test_privileges.result c.in_ok-test_role.ensures.0
    (subst (λ needs. HasPassed (no_privilege items user needs ∷ []) c.test_privileges.result) c.in_ok-needs.ensures c.test_privileges.ensures)
