use Rattle.std.proofs.Common.{inl, sym, subst}
use Rattle.cat_items.specs.declared.edit.Refusal.TheVariants.{NoPrivilege}
use Rattle.cat_items.specs.declared.need.Need.{Need}
use Rattle.grant_edit.specs.Grants.{no_privilege_to_grant}
use Rattle.grant_edit.proofs.GrantLemmas.{passes_some, refuses_nothing, some_or_none}
use Rattle.grant_edit.proofs.statements.granted_of.Goals as goal

pub returns-in-None : goal.returns-in-None
returns-in-None c =
    let items = c.args.c.now.items in
    let named = c.args.named.now.items in (
      passes_some items c.args.grantor.now c.args.object.now named _ c.in_ok-granted.ensures.members c.in-None.ensures,
      record {
        members = c.in_ok-granted.ensures.members;
        all = c.in_ok-granted.ensures.all;
        some = some_or_none items c.args.grantor.now c.args.object.now named _ c.in_ok-granted.ensures.members c.in-None.ensures;
      },
    )

pub returns-in_ok-need-in-Some : goal.returns-in_ok-need-in-Some
returns-in_ok-need-in-Some c =
    let items = c.args.c.now.items in
    let named = c.args.named.now.items in (
      inl (subst (λ (n : Need). no_privilege_to_grant items c.args.grantor.now named (NoPrivilege n)) (sym c.in_ok-need-in-Some.ensures)
          (refuses_nothing items c.args.grantor.now c.args.object.now named _ c.in_ok-granted.ensures.members _ c.in-Some.ensures.0 c.in-Some.ensures.1)),
      tt,
    )
