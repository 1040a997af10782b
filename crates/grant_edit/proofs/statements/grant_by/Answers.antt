use Rattle.std.proofs.Common.{[], ◌∷◌, List, subst}
use Rattle.std.specs.List.{Contains}
use Rattle.cat_items.specs.declared.need.Need.{Need}
use Rattle.edit_rules.specs.First.{First, Passes}
use Rattle.grant_edit.specs.Grants.{no_privilege_to_grant}
use Rattle.grant_edit.proofs.NamedLemmas.{named_is_on}
use Rattle.grant_edit.proofs.StatementLemmas.{grants_are_sound, grants_by}
use Rattle.grant_edit.proofs.statements.grant_by.Goals as goal

pub granted_of-requires : goal.granted_of-requires
granted_of-requires c need h =
    named_is_on c.args.parts.now.target.kind c.args.object.now c.args.parts.now.privileges need (subst (λ l. Contains l need) c.in_ok-named.ensures h)

pub returns-clause-tested : goal.returns-clause-tested
returns-clause-tested c =
    let items = c.args.c.now.items in (
      subst (λ (l : List Need). Passes (First (no_privilege_to_grant items c.args.grantor.now l ∷ []))) c.in_ok-named.ensures c.in_ok-granted.ensures.0,
      grants_by items c.args.grantor.now c.args.object.now c.args.parts.now _ _ _ _ c.in_ok-named.ensures c.in_ok-granted.ensures.1 c.adding-edit.ensures.target c.adding-edit.ensures.changed c.adding-edit.ensures.added c.in_ok-added.ensures.order c.in_ok-added.ensures.members c.is_partial-partial.ensures,
    )

pub returns-clause-sound : goal.returns-clause-sound
returns-clause-sound c good =
    let items = c.args.c.now.items in
    let grants = grants_by items c.args.grantor.now c.args.object.now c.args.parts.now _ _ _ _ c.in_ok-named.ensures c.in_ok-granted.ensures.1 c.adding-edit.ensures.target c.adding-edit.ensures.changed c.adding-edit.ensures.added c.in_ok-added.ensures.order c.in_ok-added.ensures.members c.is_partial-partial.ensures in
    grants_are_sound items c.args.grantor.now c.args.object.now c.args.parts.now _ grants good
